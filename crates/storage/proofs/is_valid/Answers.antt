-- `storage::is_valid` meets its contract. Assumes nothing.
use Rattle.std.proofs.Common.{rules}
use Rattle.storage.specs.Storage.{is_valid}
use Rattle.storage.proofs.is_valid.Goals as goal

pub returns-then-done_kept : goal.returns-then-done_kept
unfolding is_valid
returns-then-done_kept c = search rules

pub returns-else-done_kept : goal.returns-else-done_kept
unfolding is_valid
returns-else-done_kept c = search rules
