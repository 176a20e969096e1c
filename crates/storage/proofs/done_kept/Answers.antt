-- `storage::done_kept` meets its contract. Assumes nothing.
use Rattle.std.proofs.Common.{rules}
use Rattle.storage.specs.Storage.{done_kept}
use Rattle.storage.proofs.done_kept.Goals as goal

pub returns-then-is_done : goal.returns-then-is_done
unfolding done_kept
returns-then-is_done c = search rules

pub returns-else-is_done : goal.returns-else-is_done
unfolding done_kept
returns-else-is_done c = search rules

pub returns-else-full_in_one_shot : goal.returns-else-full_in_one_shot
unfolding done_kept
returns-else-full_in_one_shot c = search rules
