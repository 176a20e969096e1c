-- `status::bit_cleared` meets its contract. Assumes nothing.
use Rattle.status.specs.Status.{bit_cleared}
use Rattle.status.proofs.bit_cleared.Goals as goal

pub returns : goal.returns
unfolding bit_cleared
returns c = rw (← c.register_of-value.ensures, ← c.without_bit.ensures) c.with_register.ensures
