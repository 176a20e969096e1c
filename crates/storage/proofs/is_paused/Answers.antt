-- `storage::is_paused` meets its contract. Assumes nothing.
use Rattle.std.proofs.Common.{rules}
use Rattle.storage.specs.Storage.{is_paused}
use Rattle.storage.proofs.is_paused.Goals as goal

pub returns : goal.returns
unfolding is_paused
returns c = search rules
