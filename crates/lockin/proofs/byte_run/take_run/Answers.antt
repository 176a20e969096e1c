-- `lockin::byte_run::take_run` meets its contract: by whether 11 or 9 refuses it. Assumes nothing.
use mathlib.Core.Path.{sym, ◌∙◌}
use Rattle.lockin.proofs.WholeRun.{run-answers, run-refused}
use Rattle.lockin.proofs.byte_run.take_run.Goals as goal

pub returns-in-Ok : goal.returns-in-Ok
returns-in-Ok c =
    let args = c.args in
    rw c.result_of.ensures
    (let each = run-answers args.bytes.now args.mark args.m _ _
    (sym c.guard-outcome.ensures ∙ c.in-Ok.is) c.run_bytes.ensures in record { meets = each.0; numbers = each.1 })

pub returns-in-Err : goal.returns-in-Err
returns-in-Err c =
    let args = c.args in
    rw c.refused_run.ensures
    (let each = run-refused args.bytes.now args.mark args.m _ _ _
    (sym c.guard-outcome.ensures ∙ c.in-Err.is) in record { meets = each.0; numbers = each.1 })
