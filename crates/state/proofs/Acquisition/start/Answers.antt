-- `state::Acquisition::start` meets its contract. Assumes nothing.
use Rattle.state.proofs.Acquisition.start.Goals as goal

pub returns : goal.returns
returns c = rw c.emptied.ensures
