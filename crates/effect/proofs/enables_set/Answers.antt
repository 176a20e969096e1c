-- `effect::enables_set` meets its contract. Assumes nothing.
use Rattle.std.proofs.Common.{rules}
use Rattle.effect.specs.Effect.{enables_set}
use Rattle.effect.proofs.enables_set.Goals as goal

pub returns-in-Enable : goal.returns-in-Enable
unfolding enables_set
returns-in-Enable c = search rules

pub returns-in-EnableBit : goal.returns-in-EnableBit
unfolding enables_set
returns-in-EnableBit c = search rules

pub returns-in-Value : goal.returns-in-Value
unfolding enables_set
returns-in-Value c = search rules
