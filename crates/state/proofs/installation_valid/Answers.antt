-- `state::installation_valid` meets its contract. Assumes nothing.
use Rattle.std.proofs.Common.{rules}
use Rattle.state.specs.Valid.{installation_valid}
use Rattle.state.proofs.installation_valid.Goals as goal

pub returns-then-u-le-GPIB : goal.returns-then-u-le-GPIB
unfolding installation_valid
returns-then-u-le-GPIB c = search rules

pub returns-else-u-le-GPIB : goal.returns-else-u-le-GPIB
unfolding installation_valid
returns-else-u-le-GPIB c = search rules
