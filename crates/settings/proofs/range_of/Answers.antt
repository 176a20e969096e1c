-- `settings::range_of` meets its contract. Assumes nothing.
use Rattle.settings.specs.Parts.{range_of}
use Rattle.settings.proofs.range_of.Goals as goal

pub returns : goal.returns
unfolding range_of
returns c = rw c.step_of-step.ensures
