-- `precondition::value_allowed` meets its contract, entry by entry. Assumes nothing.
use mathlib.Core.Path.{sym, ◌∙◌}
use borrow.Author.Rules.{rules}
use borrow.Author.Tests.{tests}
use Rattle.precondition.specs.Allowed.{value_allowed}
use Rattle.precondition.proofs.value_allowed.Goals as goal

pub returns-then-is_internal : goal.returns-then-is_internal
unfolding value_allowed
returns-then-is_internal c =
    rw (c.stays_within_limit.ensures, c.in-2.is, sym c.is_internal.ensures ∙ c.if-is_internal.true)

pub returns-else-is_internal : goal.returns-else-is_internal
unfolding value_allowed
returns-else-is_internal c =
    rw (c.in-2.is, sym c.is_internal.ensures ∙ c.if-is_internal.false) c.if-is_internal.false

pub returns-in-4 : goal.returns-in-4
unfolding value_allowed
returns-in-4 c = search (rules, tests)

pub returns-in-14 : goal.returns-in-14
unfolding value_allowed
returns-in-14 c = rw (c.time_constant_stands.ensures, c.in-14.is)

pub returns-in-32 : goal.returns-in-32
unfolding value_allowed
returns-in-32 c = rw (c.is_reset.ensures, c.in-32.is)

pub returns-in_default : goal.returns-in_default
unfolding value_allowed
returns-in_default c = search (rules, tests)
