-- `effect::storage_after` meets its contract. Assumes nothing.
use Rattle.std.proofs.Common.{rules}
use Rattle.effect.specs.Effect.{storage_after}
use Rattle.effect.proofs.storage_after.Goals as goal

pub returns-in-Set : goal.returns-in-Set
unfolding storage_after
returns-in-Set c = search rules

pub returns-in-Act : goal.returns-in-Act
unfolding storage_after
returns-in-Act c = search rules
