-- `storage::held_after` meets its contract. Assumes nothing.
use Rattle.std.proofs.Common.{rules}
use Rattle.storage.specs.Storage.{held_after}
use Rattle.storage.proofs.held_after.Goals as goal

pub returns : goal.returns
unfolding held_after
returns c = search rules
