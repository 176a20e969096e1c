-- `storage::oldest` meets its contract. Assumes nothing.
use Rattle.std.proofs.Common.{rules}
use Rattle.storage.specs.Storage.{oldest_of}
use Rattle.storage.proofs.oldest.Goals as goal

pub returns : goal.returns
unfolding oldest_of
returns c = search rules
