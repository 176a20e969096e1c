-- `effect::acquisition_by` meets its contract. Assumes nothing.
use Rattle.effect.specs.Effect.{acquisition_by}
use Rattle.effect.proofs.acquisition_by.Goals as goal

pub returns : goal.returns
unfolding acquisition_by
returns c = rw (c.restarted-t.ensures, c.storage_by-p.ensures, c.sampling_of.ensures)
