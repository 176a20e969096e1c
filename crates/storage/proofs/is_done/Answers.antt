-- `storage::is_done` meets its contract. Assumes nothing.
use Rattle.std.proofs.Common.{rules}
use Rattle.storage.specs.Storage.{is_done}
use Rattle.storage.proofs.is_done.Goals as goal

pub returns : goal.returns
unfolding is_done
returns c = search rules
