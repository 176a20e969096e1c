-- `state::parts_valid` meets its contract. Assumes nothing.
use Rattle.std.proofs.Common.{rules}
use Rattle.state.specs.Valid.{parts_valid}
use Rattle.state.proofs.parts_valid.Goals as goal

pub returns-then-stored : goal.returns-then-stored
unfolding parts_valid
returns-then-stored c = search rules

pub returns-else-stored : goal.returns-else-stored
unfolding parts_valid
returns-else-stored c = search rules
