-- `state::tick_of` meets its contract. Assumes nothing.
use Rattle.state.specs.Storing.{tick_of}
use Rattle.state.proofs.tick_of.Goals as goal

pub returns : goal.returns
unfolding tick_of
returns c = rw (c.ticked.ensures, c.sampling_of.ensures)
