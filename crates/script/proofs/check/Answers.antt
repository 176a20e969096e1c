-- `script::check` meets its contract: 9 first, then line by line. Assumes nothing.
use mathlib.Core.Path.{sym, ap, ◌∙◌}
use Rattle.verdict.specs.Numbers.{verdict_numbers}
use Rattle.script.specs.Check.{check_of}
use Rattle.script.proofs.check.Goals as goal

pub returns-then-model_fits-clause-value : goal.returns-then-model_fits-clause-value
unfolding check_of
returns-then-model_fits-clause-value c = rw (sym c.model_fits.ensures ∙ c.if-model_fits.true) c.check_lines.ensures

pub returns-then-model_fits-clause-numbers : goal.returns-then-model_fits-clause-numbers
unfolding check_of
returns-then-model_fits-clause-numbers c =
    ap verdict_numbers (rw (sym c.model_fits.ensures ∙ c.if-model_fits.true) c.check_lines.ensures)

pub returns-else-model_fits-clause-value : goal.returns-else-model_fits-clause-value
unfolding check_of
returns-else-model_fits-clause-value c = rw (sym c.model_fits.ensures ∙ c.if-model_fits.false)

pub returns-else-model_fits-clause-numbers : goal.returns-else-model_fits-clause-numbers
unfolding check_of
returns-else-model_fits-clause-numbers c = rw (sym c.model_fits.ensures ∙ c.if-model_fits.false)
