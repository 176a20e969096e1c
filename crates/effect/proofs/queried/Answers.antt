-- `effect::queried` meets its contract. Assumes nothing.
use Rattle.effect.proofs.queried.Goals as goal

pub returns : goal.returns
returns c = rw c.registers_asked-t.ensures
