-- `storage::triggered` meets its contract. Assumes nothing.
use Rattle.std.proofs.Common.{rules}
use Rattle.storage.specs.Storage.{triggered_of, sets_running, trigger_stores}
use Rattle.storage.proofs.triggered.Goals as goal

pub returns-then-stores-2 : goal.returns-then-stores-2
unfolding triggered_of sets_running trigger_stores
returns-then-stores-2 c = search rules

pub returns-else-stores-2 : goal.returns-else-stores-2
unfolding triggered_of sets_running trigger_stores
returns-else-stores-2 c = search rules
