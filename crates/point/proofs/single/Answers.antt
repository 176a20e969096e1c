-- `point::single` meets its contract: the highest digit of a, moved to place 23, is the one that the fraction hides.
-- Assumes nothing.
use native.Mathlib.Omega.{arith}
use Rattle.point.specs.Single.{pattern}
use Rattle.point.specs.Point.{single_of}
use Rattle.point.proofs.Digits.{Placed, placed}
use Rattle.point.proofs.single.Goals.{Start}
use Rattle.point.proofs.single.Goals as goal

known : (c : Start) → Placed c.args.a
known c = placed c.args.a c.requires.magnitude_fits.0 c.requires.magnitude_fits.1

pub overflow_sub-field : goal.overflow_sub-field
overflow_sub-field c = omega (arith, known (goal.at.overflow_sub-field c).Start)

pub overflow_sub-fraction : goal.overflow_sub-fraction
overflow_sub-fraction c = omega (arith, known (goal.at.overflow_sub-fraction c).Start)

pub overflow_shl-fraction : goal.overflow_shl-fraction
overflow_shl-fraction c = omega (arith, known (goal.at.overflow_shl-fraction c).Start)

pub overflow_sub-fraction-2 : goal.overflow_sub-fraction-2
overflow_sub-fraction-2 c = omega (arith, known (goal.at.overflow_sub-fraction-2 c).Start)

pub overflow_add-result : goal.overflow_add-result
overflow_add-result c = omega (arith, known (goal.at.overflow_add-result c).Start)

pub returns : goal.returns
unfolding single_of pattern
returns c = omega (arith, known (goal.at.returns c).Start)
