-- `precondition::set_allowed` meets its contract. Assumes nothing.
use borrow.Author.Rules.{rules}
use Rattle.precondition.specs.Allowed.{set_allowed}
use Rattle.precondition.proofs.set_allowed.Goals as goal

pub returns-in-Value : goal.returns-in-Value
unfolding set_allowed
returns-in-Value c = rw (c.value_allowed.ensures, c.in-Value.is)

pub returns-in-Pair : goal.returns-in-Pair
unfolding set_allowed
returns-in-Pair c = search rules
