-- `storage::started` meets its contract. Assumes nothing.
use Rattle.std.proofs.Common.{rules}
use Rattle.storage.specs.Storage.{started_of}
use Rattle.storage.proofs.started.Goals as goal

pub returns-then-is_paused : goal.returns-then-is_paused
unfolding started_of
returns-then-is_paused c = search rules

pub returns-else-is_paused : goal.returns-else-is_paused
unfolding started_of
returns-else-is_paused c = search rules
