-- `status::with_enable_bit` meets its contract. Assumes nothing.
use Rattle.status.specs.Status.{with_enable_bit}
use Rattle.status.proofs.with_enable_bit.Goals as goal

pub returns : goal.returns
unfolding with_enable_bit
returns c = rw (← c.enable_of-byte.ensures, ← c.with_bit.ensures) c.with_enable_byte.ensures
