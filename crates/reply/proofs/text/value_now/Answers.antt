-- `reply::value_now` meets its contract: for FREQ the frequency in force, else the value of the entry. Assumes
-- nothing.
use borrow.Author.Tests.{eq-eqb, ne_eqb}
use Rattle.reply.specs.Text.{value_now}
use Rattle.reply.proofs.text.value_now.Goals as goal

pub returns-then-entry-eq-FREQ : goal.returns-then-entry-eq-FREQ
unfolding value_now
returns-then-entry-eq-FREQ c = rw (c.in_force.ensures, eq-eqb _ _ c.if-entry-eq-FREQ.true)

pub returns-else-entry-eq-FREQ : goal.returns-else-entry-eq-FREQ
unfolding value_now
returns-else-entry-eq-FREQ c = rw (c.value_of.ensures, ne_eqb _ _ c.if-entry-eq-FREQ.false)
