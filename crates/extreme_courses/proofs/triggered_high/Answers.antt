-- `extreme_courses::triggered_high` meets its contract. Assumes nothing.
use Rattle.extreme_courses.specs.Extremes.{triggered_high}
use Rattle.extreme_courses.proofs.triggered_high.Goals as goal

pub returns : goal.returns
unfolding triggered_high
returns c = rw (c.triggered-p.ensures, c.sampling_of.ensures)
