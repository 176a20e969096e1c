-- `settings::turned` meets its contract. Assumes nothing.
use mathlib.Core.Path.{refl}
use Rattle.settings.specs.Table.{turned_of}
use Rattle.settings.proofs.turned.Goals as goal

pub returns : goal.returns
unfolding turned_of
returns c = refl
