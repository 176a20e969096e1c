-- `event::raised` meets its contract. Assumes nothing.
use Rattle.event.specs.Event.{bits_raised}
use mathlib.Core.Path.{sym, ◌∙◌}
use Rattle.event.proofs.raised.Goals as goal

pub returns-then-may_raise : goal.returns-then-may_raise
unfolding bits_raised
returns-then-may_raise c = simp (c.with_raised-t.ensures, sym c.may_raise.ensures ∙ c.if-may_raise.true)

pub returns : goal.returns
unfolding bits_raised
returns c = simp (sym c.may_raise.ensures ∙ c.if-may_raise.false)
