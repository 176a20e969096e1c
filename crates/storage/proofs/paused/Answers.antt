-- `storage::paused` meets its contract. Assumes nothing.
use Rattle.std.proofs.Common.{rules}
use Rattle.storage.specs.Storage.{paused_of}
use Rattle.storage.proofs.paused.Goals as goal

pub returns-then-is_running : goal.returns-then-is_running
unfolding paused_of
returns-then-is_running c = search rules

pub returns-else-is_running : goal.returns-else-is_running
unfolding paused_of
returns-else-is_running c = search rules
