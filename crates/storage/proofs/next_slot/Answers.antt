-- `storage::next_slot` meets its contract. Assumes nothing.
use Rattle.std.proofs.Common.{rules}
use Rattle.storage.specs.Storage.{next_slot}
use Rattle.storage.proofs.next_slot.Goals as goal

pub returns-then-after-capacity : goal.returns-then-after-capacity
unfolding next_slot
returns-then-after-capacity c = search rules

pub returns-else-after-capacity : goal.returns-else-after-capacity
unfolding next_slot
returns-else-after-capacity c = search rules
