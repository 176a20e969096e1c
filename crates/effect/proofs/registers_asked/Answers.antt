-- `effect::registers_asked` meets its contract. Assumes nothing.
use Rattle.std.proofs.Common.{rules}
use Rattle.effect.specs.Effect.{registers_asked}
use Rattle.effect.proofs.registers_asked.Goals as goal

pub returns-in-Status : goal.returns-in-Status
unfolding registers_asked
returns-in-Status c = search rules

pub returns-in-StatusBit : goal.returns-in-StatusBit
unfolding registers_asked
returns-in-StatusBit c = search rules

pub returns-in-Value : goal.returns-in-Value
unfolding registers_asked
returns-in-Value c = search rules
