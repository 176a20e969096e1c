-- `settings::table::mosts` meets its contract: the constant computes to the table's column. Assumes nothing.
use mathlib.Core.Path.{refl}
use Rattle.settings.specs.Table.{table}
use Rattle.settings.proofs.table.mosts.Goals as goal

pub returns : goal.returns
unfolding table
returns c = refl
