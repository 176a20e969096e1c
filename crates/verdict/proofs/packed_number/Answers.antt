-- `verdict::packed_number` meets its contract, case by case. Assumes nothing.
use Rattle.verdict.specs.PackedNumber.{packed_number}
use Rattle.verdict.proofs.packed_number.Goals as goal

pub returns-in-Ok : goal.returns-in-Ok
unfolding packed_number
returns-in-Ok c = rw c.in-Ok.is

pub returns-in-Err : goal.returns-in-Err
unfolding packed_number
returns-in-Err c = rw c.in-Err.is c.pack.ensures
