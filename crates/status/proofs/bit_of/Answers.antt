-- `status::bit_of` meets its contract: a byte has no bit past 7. Assumes nothing.
use mathlib.Core.Path.{refl, sym}
use borrow.Author.Rules.{rules}
use Rattle.status.specs.Bits.{bit_of}
use Rattle.status.proofs.Bits.{past}
use Rattle.status.proofs.bit_of.Goals as goal

pub returns-then-bit-lt8 : goal.returns-then-bit-lt8
unfolding bit_of
returns-then-bit-lt8 c = refl

pub returns-else-bit-lt8 : goal.returns-else-bit-lt8
returns-else-bit-lt8 c = sym (past c.args.x c.args.bit (search rules) (search rules))
