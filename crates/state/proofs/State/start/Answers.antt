-- `state::State::start` meets its contract. Assumes nothing.
use Rattle.state.specs.State.{start_state}
use Rattle.state.proofs.State.start.Goals as goal

pub returns : goal.returns
unfolding start_state
returns c = rw (c.start-4.ensures, c.start-3.ensures, c.start-2.ensures, c.start.ensures)
