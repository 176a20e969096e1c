-- `extreme_courses::before_line` meets its contract. Assumes nothing.
use Rattle.extreme_courses.specs.Extremes.{before_line}
use Rattle.extreme_courses.proofs.before_line.Goals as goal

pub returns : goal.returns
unfolding before_line
returns c = rw (c.triggered_high.ensures, c.measured_high.ensures)
