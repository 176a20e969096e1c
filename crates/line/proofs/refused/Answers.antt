-- `line::refused` meets its contract: the error bit, the answer and the count. Assumes nothing.
use native.Mathlib.Nat.{add-zero}
use Rattle.line.proofs.refused.Goals as goal

pub returns : goal.returns
returns c one two = rw (c.with_error_bit.ensures, c.first_of.ensures, c.drops.ensures, add-zero c.args.p.at)
