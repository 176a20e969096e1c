-- `effect::settings_after` meets its contract. Assumes nothing.
use Rattle.effect.specs.Effect.{settings_after}
use Rattle.effect.proofs.settings_after.Goals as goal

pub returns-in-Set : goal.returns-in-Set
unfolding settings_after
returns-in-Set c = rw (c.set_in.ensures, c.in-Set.is)

pub returns-in-Query : goal.returns-in-Query
unfolding settings_after
returns-in-Query c = rw c.in-Query.is

pub returns-in-Act : goal.returns-in-Act
unfolding settings_after
returns-in-Act c = rw (c.restored.ensures, c.in-Act.is)
