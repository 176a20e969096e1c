-- `state::sampling_of` meets its contract. Assumes nothing.
use Rattle.state.specs.State.{sampling_of}
use Rattle.state.proofs.sampling_of.Goals as goal

pub returns : goal.returns
unfolding sampling_of
returns c = rw (c.value_of-3.ensures, c.value_of-2.ensures, c.value_of.ensures)
