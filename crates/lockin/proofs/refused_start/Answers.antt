-- `lockin::refused_start` meets its contract. Assumes nothing.
use Rattle.lockin.proofs.refused_start.Goals as goal

pub returns : goal.returns
returns c = rw c.fresh.ensures
