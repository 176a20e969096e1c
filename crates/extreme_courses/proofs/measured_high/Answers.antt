-- `extreme_courses::measured_high` meets its contract. Assumes nothing.
use mathlib.Core.Path.{sym, ◌∙◌}
use Rattle.extreme_courses.specs.Extremes.{measured_high}
use Rattle.extreme_courses.proofs.measured_high.Goals as goal

pub returns-then-is_internal : goal.returns-then-is_internal
unfolding measured_high
returns-then-is_internal c = rw (sym c.is_internal.ensures ∙ c.if-is_internal.true)

pub returns : goal.returns
unfolding measured_high
returns c =
    let external = sym c.is_internal.ensures ∙ c.if-is_internal.false in
    rw (c.range_settled.ensures, c.highest-external.ensures, c.value_of.ensures, external)
