-- `number::Amount::placed` meets its contract. Assumes nothing.
use Rattle.number.specs.Parts.{placed_in}
use Rattle.number.proofs.Amount.placed.Goals as goal

pub returns-then-self : goal.returns-then-self
unfolding placed_in
returns-then-self c = rw (← c.round_to-n.ensures.0, c.if-self.true) (cc)

pub returns-else-self : goal.returns-else-self
unfolding placed_in
returns-else-self c = rw (← c.round_to-n.ensures.0, c.if-self.false, c.from-bias.ensures)
