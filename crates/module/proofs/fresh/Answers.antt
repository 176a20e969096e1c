-- `module::fresh` meets its contract. Assumes nothing.
use Rattle.module.specs.Start.{fresh_module}
use Rattle.module.proofs.fresh.Goals as goal

pub returns : goal.returns
unfolding fresh_module
returns c = rw (c.empty.ensures, c.start.ensures)
