-- `status::Registers::start` meets its contract. Assumes nothing.
use mathlib.Core.Path.{refl}
use Rattle.status.proofs.Registers.start.Goals as goal

pub returns : goal.returns
returns c = refl
