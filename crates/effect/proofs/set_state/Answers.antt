-- `effect::set_state` meets its contract. Assumes nothing.
use Rattle.effect.proofs.set_state.Goals as goal

pub returns : goal.returns
returns c = rw (c.settled.ensures, c.set_in-t.ensures, c.enables_set-t.ensures)
