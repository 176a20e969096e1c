-- `status::bits_valid` meets its contract. Assumes nothing.
use Rattle.std.proofs.Common.{rules}
use Rattle.status.specs.Status.{is_valid}
use Rattle.status.proofs.bits_valid.Goals as goal

pub returns-then-not-common-3 : goal.returns-then-not-common-3
unfolding is_valid
returns-then-not-common-3 c = search rules

pub returns-else-not-common-3 : goal.returns-else-not-common-3
unfolding is_valid
returns-else-not-common-3 c = search rules
