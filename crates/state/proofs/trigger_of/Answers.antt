-- `state::trigger_of` meets its contract. Assumes nothing.
use Rattle.state.specs.Storing.{trigger_of}
use Rattle.state.proofs.trigger_of.Goals as goal

pub returns : goal.returns
unfolding trigger_of
returns c = rw (c.triggered.ensures, c.sampling_of.ensures)
