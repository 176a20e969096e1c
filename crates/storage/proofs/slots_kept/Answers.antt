-- `storage::slots_kept` meets its contract. Assumes nothing.
use Rattle.std.proofs.Common.{rules}
use Rattle.storage.specs.Storage.{slots_kept}
use Rattle.storage.proofs.slots_kept.Goals as goal

pub returns-then-capacity-s : goal.returns-then-capacity-s
unfolding slots_kept
returns-then-capacity-s c = search rules

pub returns-else-capacity-s : goal.returns-else-capacity-s
unfolding slots_kept
returns-else-capacity-s c = search rules

pub returns-else-s-capacity-2 : goal.returns-else-s-capacity-2
unfolding slots_kept
returns-else-s-capacity-2 c = search rules
