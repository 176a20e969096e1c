-- `lockin::take_line` meets its contract: its parts answer as the call does. Assumes nothing.
use native.Mathlib.Nat.{sub-zero}
use Rattle.lockin.proofs.Parts.{line-answers}
use Rattle.lockin.proofs.take_line.Goals as goal

pub returns : goal.returns
returns c =
    let args = c.args in
    let each = line-answers _ _ args.m _ _ c.guard-outcome.ensures c.whole_end-ending.ensures
    c.end_index-end.ensures
    (rw (sub-zero c.end_index-end.result) at c.end_guarded-r.ensures) in record { meets = each.0; numbers = each.1 }
