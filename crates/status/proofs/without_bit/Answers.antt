-- `status::without_bit` meets its contract: the weight of a set bit is part of the byte, and past 7 none is set.
-- Assumes nothing.
use native.Mathlib.Omega.{arith}
use borrow.Author.Rules.{rules}
use Rattle.status.specs.Bits.{without_bit}
use Rattle.status.proofs.Bits.{past, weight_le}
use Rattle.status.proofs.without_bit.Goals as goal

pub overflow_sub-result : goal.overflow_sub-result
overflow_sub-result c = rw c.bit_of.ensures (omega (arith, weight_le c.args.x c.args.bit))

pub returns-then-bit-lt8 : goal.returns-then-bit-lt8
unfolding without_bit
returns-then-bit-lt8 c = rw c.bit_of.ensures (omega (arith, weight_le c.args.x c.args.bit))

pub returns-else-bit-lt8 : goal.returns-else-bit-lt8
unfolding without_bit
returns-else-bit-lt8 c = rw (past c.args.x c.args.bit (search rules) (search rules)) (omega arith)
