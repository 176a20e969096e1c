-- `settings::Settings::start` meets its contract: the constant computes to the table's starts. Assumes nothing.
use mathlib.Core.Path.{refl}
use Rattle.settings.specs.Table.{table, start_settings}
use Rattle.settings.proofs.Settings.start.Goals as goal

pub returns : goal.returns
unfolding table start_settings
returns c = refl
