-- `storage::stored` meets its contract. Assumes nothing.
use Rattle.std.proofs.Common.{rules}
use Rattle.storage.specs.Storage.{stored_of}
use Rattle.storage.proofs.stored.Goals as goal

pub returns-then-full_in_one_shot : goal.returns-then-full_in_one_shot
unfolding stored_of
returns-then-full_in_one_shot c = search rules

pub returns-else-full_in_one_shot : goal.returns-else-full_in_one_shot
unfolding stored_of
returns-else-full_in_one_shot c = search rules
