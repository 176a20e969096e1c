-- `event::new_pair` meets its contract. Assumes nothing.
use Rattle.event.specs.Event.{latest_taken}
use mathlib.Core.Path.{sym, ◌∙◌}
use Rattle.event.proofs.new_pair.Goals as goal

pub returns-then-latest_valid : goal.returns-then-latest_valid
unfolding latest_taken
returns-then-latest_valid c = simp (sym c.latest_valid.ensures ∙ c.if-latest_valid.true)

pub returns : goal.returns
unfolding latest_taken
returns c = simp (sym c.latest_valid.ensures ∙ c.if-latest_valid.false)
