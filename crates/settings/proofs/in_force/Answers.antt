-- `settings::in_force` meets its contract. Assumes nothing.
use mathlib.Core.Path.{sym, ◌∙◌}
use Rattle.settings.specs.Frequency.{in_force}
use Rattle.settings.proofs.in_force.Goals as goal

pub returns-then-is_internal : goal.returns-then-is_internal
unfolding in_force
returns-then-is_internal c = rw (sym c.is_internal.ensures ∙ c.if-is_internal.true) c.value_of.ensures

pub returns : goal.returns
unfolding in_force
returns c = rw (sym c.is_internal.ensures ∙ c.if-is_internal.false)
