-- `effect::acquisition_after` meets its contract. Assumes nothing.
use Rattle.effect.specs.Effect.{acquisition_after}
use Rattle.effect.proofs.acquisition_after.Goals as goal

pub returns-in-Set : goal.returns-in-Set
unfolding acquisition_after
returns-in-Set c = rw (c.range_settled.ensures, c.in-Set.is)

pub returns-in-Query : goal.returns-in-Query
unfolding acquisition_after
returns-in-Query c = rw c.in-Query.is

pub returns-in-Act : goal.returns-in-Act
unfolding acquisition_after
returns-in-Act c = rw (c.acquisition_by.ensures, c.in-Act.is)
