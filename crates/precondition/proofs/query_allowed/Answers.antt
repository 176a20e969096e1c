-- `precondition::query_allowed` meets its contract. Assumes nothing.
use borrow.Author.Rules.{rules}
use Rattle.precondition.specs.Allowed.{query_allowed}
use Rattle.precondition.proofs.query_allowed.Goals as goal

pub returns-in-Trace : goal.returns-in-Trace
unfolding query_allowed
returns-in-Trace c = rw (c.holds.ensures, c.in-Trace.is)

pub returns-in-Value : goal.returns-in-Value
unfolding query_allowed
returns-in-Value c = search rules

pub returns-in-Enable : goal.returns-in-Enable
unfolding query_allowed
returns-in-Enable c = search rules

pub returns-in-Status : goal.returns-in-Status
unfolding query_allowed
returns-in-Status c = search rules

pub returns-in-Identity : goal.returns-in-Identity
unfolding query_allowed
returns-in-Identity c = search rules
