-- `storage::ticked` meets its contract. Assumes nothing.
use Rattle.std.proofs.Common.{rules}
use Rattle.storage.specs.Storage.{ticked_of, tick_stores}
use Rattle.storage.proofs.ticked.Goals as goal

pub returns-then-stores : goal.returns-then-stores
unfolding ticked_of tick_stores
returns-then-stores c = search rules

pub returns-else-stores : goal.returns-else-stores
unfolding ticked_of tick_stores
returns-else-stores c = search rules
