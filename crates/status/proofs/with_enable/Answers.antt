-- `status::with_enable` meets its contract. Assumes nothing.
use Rattle.status.specs.Status.{with_enable}
use Rattle.status.proofs.with_enable.Goals as goal

pub returns : goal.returns
unfolding with_enable
returns c = c.with_enable_byte.ensures
