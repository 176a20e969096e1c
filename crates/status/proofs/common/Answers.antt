-- `status::common` meets its contract. Assumes nothing.
use mathlib.Core.Path.{refl}
use Rattle.status.specs.Bits.{meets}
use Rattle.status.proofs.common.Goals as goal

pub returns : goal.returns
unfolding meets
returns c = refl
