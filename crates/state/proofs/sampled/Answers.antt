-- `state::sampled` meets its contract. Assumes nothing.
use Rattle.state.specs.Storing.{sampled_by}
use Rattle.state.proofs.sampled.Goals as goal

pub returns : goal.returns
unfolding sampled_by
returns c = rw (c.with_storage_of.ensures, c.with_lia-t.ensures)
