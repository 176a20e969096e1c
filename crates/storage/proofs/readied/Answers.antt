-- `storage::readied` meets its contract. Assumes nothing.
use Rattle.std.proofs.Common.{rules}
use Rattle.storage.specs.Storage.{readied_of}
use Rattle.storage.proofs.readied.Goals as goal

pub returns-then-by-eq-TRIGGER_STARTS : goal.returns-then-by-eq-TRIGGER_STARTS
unfolding readied_of
returns-then-by-eq-TRIGGER_STARTS c = search rules

pub returns-else-by-eq-TRIGGER_STARTS : goal.returns-else-by-eq-TRIGGER_STARTS
unfolding readied_of
returns-else-by-eq-TRIGGER_STARTS c = search rules
