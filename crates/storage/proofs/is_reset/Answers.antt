-- `storage::is_reset` meets its contract. Assumes nothing.
use Rattle.std.proofs.Common.{rules}
use Rattle.storage.specs.Storage.{is_reset}
use Rattle.storage.proofs.is_reset.Goals as goal

pub returns : goal.returns
unfolding is_reset
returns c = search rules
