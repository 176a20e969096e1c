-- `module::installation_known` meets its contract. Assumes nothing.
use Rattle.std.proofs.Common.{rules}
use Rattle.module.specs.Start.{installation_known}
use Rattle.module.proofs.installation_known.Goals as goal

pub returns-then-serial-le-SERIAL_MOST : goal.returns-then-serial-le-SERIAL_MOST
unfolding installation_known
returns-then-serial-le-SERIAL_MOST c = search rules

pub returns-else-serial-le-SERIAL_MOST : goal.returns-else-serial-le-SERIAL_MOST
unfolding installation_known
returns-else-serial-le-SERIAL_MOST c = search rules
