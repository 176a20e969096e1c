-- `event::measured` meets its contract. Assumes nothing.
use Rattle.event.specs.Event.{measured_by}
use mathlib.Core.Path.{sym, ◌∙◌}
use Rattle.event.proofs.measured.Goals as goal

pub returns-then-is_internal : goal.returns-then-is_internal
unfolding measured_by
returns-then-is_internal c = rw (sym c.is_internal.ensures ∙ c.if-is_internal.true)

pub returns-then-takes_frequency : goal.returns-then-takes_frequency
unfolding measured_by
returns-then-takes_frequency c =
    simp (
      c.settled.ensures,
      c.with_external.ensures,
      sym c.takes_frequency.ensures ∙ c.if-takes_frequency.true,
      sym c.is_internal.ensures ∙ c.if-is_internal.false,
    )

pub returns : goal.returns
unfolding measured_by
returns c =
    simp (
      c.with_lia-t.ensures,
      sym c.takes_frequency.ensures ∙ c.if-takes_frequency.false,
      sym c.is_internal.ensures ∙ c.if-is_internal.false,
    )
