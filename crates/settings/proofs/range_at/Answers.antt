-- `settings::range_at` meets its contract. Assumes nothing.
use borrow.Author.Tests.{lt-ltb, le-ltb}
use Rattle.settings.specs.Frequency.{range_at}
use Rattle.settings.proofs.range_at.Goals as goal

pub returns-then-detection : goal.returns-then-detection
unfolding range_at
returns-then-detection c = simp (lt-ltb _ _ c.if-detection.true)

pub returns-then-detection-2 : goal.returns-then-detection-2
unfolding range_at
returns-then-detection-2 c = simp (le-ltb _ _ c.if-detection.false, lt-ltb _ _ c.if-detection-2.true)

pub returns : goal.returns
unfolding range_at
returns c = simp (le-ltb _ _ c.if-detection.false, le-ltb _ _ c.if-detection-2.false)
