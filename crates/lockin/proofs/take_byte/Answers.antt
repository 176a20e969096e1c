-- `lockin::take_byte` meets its contract: its parts answer as the call does. Assumes nothing.
use mathlib.Core.Path.{◌≡◌, ◌∙◌}
use native.Mathlib.Nat.{sub-zero}
use native.Mathlib.Omega.{arith}
use lib.ListN.{length}
use borrow.Author.Rules.{rules}
use Rattle.lockin.proofs.Parts.{stored-length, byte-answers}
use Rattle.queue.specs.Queue.{line_limit}
use Rattle.lockin.proofs.take_byte.Goals.{Start}
use Rattle.lockin.proofs.take_byte.Goals as goal

-- the queue of a module has room for 256 bytes
long : (start : Start) → length start.args.m.queue.bytes ≡ line_limit
long start = search rules

pub slice_bounds-end_guarded-end : goal.slice_bounds-end_guarded-end
slice_bounds-end_guarded-end c =
    let m = c.args.m in
    let stored : length c.store.new.bytes ≡ line_limit =
    rw c.store.ensures
    (stored-length c.step_guarded-step.result.stores m.queue.len _ m.queue.bytes
    ∙ long (goal.at.slice_bounds-end_guarded-end c).Start)
    in
    omega (arith, c.end_index-end.ensures)

pub returns : goal.returns
returns c =
    let args = c.args in
    let each = byte-answers _ args.b args.mark args.m _ _ c.step_guarded-step.result (long (goal.at.returns c).Start)
    c.guard-outcome.ensures c.step_guarded-step.ensures c.store.ensures c.end_index-end.ensures
    (rw (sub-zero c.end_index-end.result) at c.end_guarded-r.ensures) in record { meets = each.0; numbers = each.1 }
