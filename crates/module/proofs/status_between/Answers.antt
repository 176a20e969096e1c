-- `module::status_between` meets its contract. Assumes nothing.
use Rattle.module.specs.Module.{status_between}
use Rattle.module.proofs.status_between.Goals as goal

pub returns : goal.returns
unfolding status_between
returns c = rw (c.status_byte.ensures, c.at_rest.ensures)
