-- `state::range_settled` meets its contract. Assumes nothing.
use Rattle.state.specs.State.{range_settled}
use Rattle.state.proofs.range_settled.Goals as goal

pub returns : goal.returns
unfolding range_settled
returns c = rw (c.range_at-range.ensures, c.detection.ensures)
