-- `status::status_byte` meets its contract. Assumes nothing.
use native.Mathlib.Omega.{arith}
use Rattle.status.specs.Status.{status_byte}
use Rattle.status.proofs.Flags.{flag_le, other_lt}
use Rattle.status.proofs.status_byte.Goals as goal

pub overflow_add-result : goal.overflow_add-result
overflow_add-result c =
    let other = other_lt c.args.r c.args.e c.args.p in
    let summary = flag_le c.common.result 6 in
    rw (c.other_bits-other.ensures, c.flag_of.ensures) (omega arith)

pub returns : goal.returns
unfolding status_byte
returns c = rw (← c.other_bits-other.ensures, ← c.common.ensures, ← c.flag_of.ensures)
