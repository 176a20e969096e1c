-- `status::cleared` meets its contract. Assumes nothing.
use Rattle.status.specs.Status.{cleared_of}
use Rattle.status.proofs.cleared.Goals as goal

pub returns : goal.returns
unfolding cleared_of
returns c = c.with_register.ensures
