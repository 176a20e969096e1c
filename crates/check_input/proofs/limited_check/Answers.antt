-- `check_input::limited_check` meets its contract. Assumes nothing.
use mathlib.Core.Path.{sym, ◌∙◌}
use native.Mathlib.Omega.{arith}
use lib.ListN.{length}
use borrow.Author.Tests.{lt-ltb, le-ltb}
use Rattle.script.specs.Check.{check_of}
use Rattle.check_input.specs.Input.{limited_check}
use Rattle.check_input.proofs.limited_check.Goals as goal

pub returns-then-script-le-SCRIPT_LIMIT : goal.returns-then-script-le-SCRIPT_LIMIT
unfolding limited_check
returns-then-script-le-SCRIPT_LIMIT c =
    rw (le-ltb 60000 (length c.args.script.now) (omega arith), sym c.of_capacity-model.ensures) c.check.ensures.value

-- a script of more than the limit
pub returns-then-model_fits : goal.returns-then-model_fits
unfolding limited_check
returns-then-model_fits c =
    let fits = rw c.of_capacity-model.ensures at (sym c.model_fits.ensures ∙ c.if-model_fits.true) in
    rw (lt-ltb 60000 (length c.args.script.now) (omega arith), fits)

pub returns : goal.returns
unfolding limited_check check_of
returns c =
    let fits = rw c.of_capacity-model.ensures at (sym c.model_fits.ensures ∙ c.if-model_fits.false) in
    rw (lt-ltb 60000 (length c.args.script.now) (omega arith), fits)
