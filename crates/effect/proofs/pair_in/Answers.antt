-- `effect::pair_in` meets its contract. Assumes nothing.
use Rattle.effect.specs.Effect.{with_pair}
use Rattle.effect.proofs.pair_in.Goals as goal

pub returns : goal.returns
unfolding with_pair
returns c = rw (c.with_value.ensures, c.next_entry.ensures, c.with_value-one.ensures)
