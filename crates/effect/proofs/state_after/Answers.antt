-- `effect::state_after` meets its contract. Assumes nothing.
use Rattle.effect.proofs.state_after.Goals as goal

-- a set
pub returns-in-Set : goal.returns-in-Set
returns-in-Set c = rw (c.set_state.ensures, c.in-Set.is)

-- a query
pub returns-in-Query : goal.returns-in-Query
returns-in-Query c = rw (c.queried.ensures, c.in-Query.is)

-- an action
pub returns-in-Act : goal.returns-in-Act
returns-in-Act c = rw (c.acted.ensures, c.in-Act.is)
