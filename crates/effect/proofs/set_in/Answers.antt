-- `effect::set_in` meets its contract. Assumes nothing.
use Rattle.std.proofs.Common.{rules}
use Rattle.effect.specs.Effect.{set_in}
use Rattle.effect.proofs.set_in.Goals as goal

pub returns-in-Value : goal.returns-in-Value
unfolding set_in
returns-in-Value c = search rules

pub returns-in-Pair : goal.returns-in-Pair
unfolding set_in
returns-in-Pair c = search rules

pub returns-in-Enable : goal.returns-in-Enable
unfolding set_in
returns-in-Enable c = search rules
