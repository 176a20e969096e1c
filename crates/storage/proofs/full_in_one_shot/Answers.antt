-- `storage::full_in_one_shot` meets its contract. Assumes nothing.
use Rattle.std.proofs.Common.{rules}
use Rattle.storage.specs.Storage.{full_in_one_shot}
use Rattle.storage.proofs.full_in_one_shot.Goals as goal

pub returns-then-end-eq-ONE_SHOT : goal.returns-then-end-eq-ONE_SHOT
unfolding full_in_one_shot
returns-then-end-eq-ONE_SHOT c = search rules

pub returns-else-end-eq-ONE_SHOT : goal.returns-else-end-eq-ONE_SHOT
unfolding full_in_one_shot
returns-else-end-eq-ONE_SHOT c = search rules
