-- `status::may_raise` meets its contract. Assumes nothing.
use Rattle.std.proofs.Common.{rules}
use Rattle.status.specs.Status.{may_raise}
use Rattle.status.proofs.may_raise.Goals as goal

pub returns-then-only_of : goal.returns-then-only_of
unfolding may_raise
returns-then-only_of c = search rules

pub returns-else-only_of : goal.returns-else-only_of
unfolding may_raise
returns-else-only_of c = search rules
