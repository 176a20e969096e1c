-- `storage::is_running` meets its contract. Assumes nothing.
use Rattle.std.proofs.Common.{rules}
use Rattle.storage.specs.Storage.{is_running}
use Rattle.storage.proofs.is_running.Goals as goal

pub returns : goal.returns
unfolding is_running
returns c = search rules
