-- `lockin::byte_run::stops` meets its contract: by whether a line ended before, and by what ends. Assumes nothing.
use mathlib.Core.Path.{sym}
use mathlib.Core.Bool.{not-not, and-false}
use borrow.Author.Tests.{lt-ltb, le-ltb}
use native.Mathlib.Omega.{arith}
use lib.Dec.{ltb}
use Rattle.line_text.proofs.Bound.{all_cleaned}
use Rattle.line.specs.Line.{line_of}
use Rattle.lockin.proofs.byte_run.stops.Goals as goal

pub returns-in-Nothing : goal.returns-in-Nothing
returns-in-Nothing c one two = rw c.in-Nothing.is (sym (and-false (ltb 0 c.args.ended)))

pub returns-then-ended-gt0 : goal.returns-then-ended-gt0
unfolding line_of
returns-then-ended-gt0 c one two =
    let dry = rw (all_cleaned c.args.text.now c.requires) at (c.fits.ensures one two) in
    rw (c.in-Line.is, lt-ltb 0 c.args.ended (omega arith), dry) (not-not _)

pub returns-else-ended-gt0 : goal.returns-else-ended-gt0
returns-else-ended-gt0 c one two = rw (le-ltb 0 c.args.ended (omega arith))

pub returns-in-TooLong : goal.returns-in-TooLong
returns-in-TooLong c one two = rw c.in-TooLong.is (sym (and-false (ltb 0 c.args.ended)))
