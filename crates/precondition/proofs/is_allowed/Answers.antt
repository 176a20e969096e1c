-- `precondition::is_allowed` meets its contract. Assumes nothing.
use Rattle.precondition.specs.Allowed.{is_allowed}
use Rattle.precondition.proofs.is_allowed.Goals as goal

pub returns-in-Set : goal.returns-in-Set
unfolding is_allowed
returns-in-Set c = rw (c.set_allowed.ensures, c.in-Set.is)

pub returns-in-Query : goal.returns-in-Query
unfolding is_allowed
returns-in-Query c = rw (c.query_allowed.ensures, c.in-Query.is)

pub returns-in-Act : goal.returns-in-Act
unfolding is_allowed
returns-in-Act c = rw c.in-Act.is
