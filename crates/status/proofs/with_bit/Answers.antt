-- `status::with_bit` meets its contract. Assumes nothing.
use borrow.Author.Tests.{eq-eqb, ne_eqb, lt-ltb, le-ltb}
use Rattle.status.specs.Bits.{with_bit}
use Rattle.status.proofs.Bits.{weight-fits}
use Rattle.status.proofs.with_bit.Goals as goal

pub returns-then-bit-ge8 : goal.returns-then-bit-ge8
unfolding with_bit
returns-then-bit-ge8 c = rw (le-ltb _ _ c.if-bit-ge8.true)

pub returns-then-value-eq0 : goal.returns-then-value-eq0
unfolding with_bit
returns-then-value-eq0 c = rw (lt-ltb _ _ c.if-bit-ge8.false, eq-eqb _ _ c.if-value-eq0.true) c.without_bit.ensures

pub returns-else-value-eq0 : goal.returns-else-value-eq0
unfolding with_bit
returns-else-value-eq0 c =
    rw (lt-ltb _ _ c.if-bit-ge8.false, ne_eqb _ _ c.if-value-eq0.false, weight-fits c.args.bit c.if-bit-ge8.false)
