-- `storage::reset_kept` meets its contract. Assumes nothing.
use Rattle.std.proofs.Common.{rules}
use Rattle.storage.specs.Storage.{reset_kept}
use Rattle.storage.proofs.reset_kept.Goals as goal

pub returns-then-not-is_reset : goal.returns-then-not-is_reset
unfolding reset_kept
returns-then-not-is_reset c = search rules

pub returns-else-not-is_reset : goal.returns-else-not-is_reset
unfolding reset_kept
returns-else-not-is_reset c = search rules
