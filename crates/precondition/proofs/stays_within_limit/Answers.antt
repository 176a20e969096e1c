-- `precondition::stays_within_limit` meets its contract. Assumes nothing.
use Rattle.precondition.specs.Allowed.{stays_within_limit}
use Rattle.precondition.proofs.stays_within_limit.Goals as goal

pub returns : goal.returns
unfolding stays_within_limit
returns c = rw (c.within_limit.ensures, c.detection.ensures, c.with_value-changed.ensures)
