-- `extreme_courses::resets` meets its contract. Assumes nothing.
use borrow.Author.Rules.{rules}
use Rattle.extreme_courses.specs.Extremes.{resets}
use Rattle.extreme_courses.proofs.resets.Goals as goal

pub returns-in-Act : goal.returns-in-Act
unfolding resets
returns-in-Act c = search rules

pub returns-in_default : goal.returns-in_default
unfolding resets
returns-in_default c = search rules

pub returns-in_default-2 : goal.returns-in_default-2
unfolding resets
returns-in_default-2 c = search rules
