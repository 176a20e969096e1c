-- `effect::cleared` meets its contract. Assumes nothing.
use Rattle.effect.proofs.cleared.Goals as goal

pub returns : goal.returns
returns c = rw (c.with_storage_of.ensures, c.all_cleared-t.ensures)
