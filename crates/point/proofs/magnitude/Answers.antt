-- `point::magnitude` meets its contract. Assumes nothing.
use Rattle.std.proofs.Common.{rules}
use Rattle.point.specs.Point.{magnitude_of}
use Rattle.point.proofs.magnitude.Goals as goal

pub returns-then-negative : goal.returns-then-negative
unfolding magnitude_of
returns-then-negative c = search rules

pub returns-else-negative : goal.returns-else-negative
unfolding magnitude_of
returns-else-negative c = search rules
