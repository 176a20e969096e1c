-- `storage::at_rest` meets its contract. Assumes nothing.
use Rattle.std.proofs.Common.{rules}
use Rattle.storage.specs.Storage.{at_rest}
use Rattle.storage.proofs.at_rest.Goals as goal

pub returns-then-is_reset : goal.returns-then-is_reset
unfolding at_rest
returns-then-is_reset c = search rules

pub returns-else-is_reset : goal.returns-else-is_reset
unfolding at_rest
returns-else-is_reset c = search rules
