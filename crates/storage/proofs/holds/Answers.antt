-- `storage::holds` meets its contract. Assumes nothing.
use Rattle.std.proofs.Common.{rules}
use Rattle.storage.specs.Storage.{holds_of}
use Rattle.storage.proofs.holds.Goals as goal

pub returns : goal.returns
unfolding holds_of
returns c = search rules
