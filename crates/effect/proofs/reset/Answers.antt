-- `effect::reset` meets its contract. Assumes nothing.
use Rattle.effect.proofs.reset.Goals as goal

pub returns : goal.returns
returns c = rw (c.with_storage_of.ensures, c.start-t-2.ensures, c.start-t.ensures)
