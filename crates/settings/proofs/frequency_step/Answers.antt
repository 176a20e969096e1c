-- `settings::frequency_step` meets its contract: each return by the tests on the way. Assumes nothing.
use borrow.Author.Tests.{lt-ltb, le-ltb}
use Rattle.settings.specs.Frequency.{step_by}
use Rattle.settings.proofs.frequency_step.Goals as goal

pub returns-then-whole-lt100000 : goal.returns-then-whole-lt100000
unfolding step_by
returns-then-whole-lt100000 c = simp (lt-ltb _ _ c.if-whole-lt100000.true)

pub returns-then-whole-lt1000000 : goal.returns-then-whole-lt1000000
unfolding step_by
returns-then-whole-lt1000000 c = simp (le-ltb _ _ c.if-whole-lt100000.false, lt-ltb _ _ c.if-whole-lt1000000.true)

pub returns-then-whole-lt10000000 : goal.returns-then-whole-lt10000000
unfolding step_by
returns-then-whole-lt10000000 c =
    simp
    (le-ltb _ _ c.if-whole-lt100000.false, le-ltb _ _ c.if-whole-lt1000000.false, lt-ltb _ _ c.if-whole-lt10000000.true)

pub returns-then-whole-lt100000000 : goal.returns-then-whole-lt100000000
unfolding step_by
returns-then-whole-lt100000000 c =
    simp (
      le-ltb _ _ c.if-whole-lt100000.false,
      le-ltb _ _ c.if-whole-lt1000000.false,
      le-ltb _ _ c.if-whole-lt10000000.false,
      lt-ltb _ _ c.if-whole-lt100000000.true,
    )

pub returns-then-whole-lt1000000000 : goal.returns-then-whole-lt1000000000
unfolding step_by
returns-then-whole-lt1000000000 c =
    simp (
      le-ltb _ _ c.if-whole-lt100000.false,
      le-ltb _ _ c.if-whole-lt1000000.false,
      le-ltb _ _ c.if-whole-lt10000000.false,
      le-ltb _ _ c.if-whole-lt100000000.false,
      lt-ltb _ _ c.if-whole-lt1000000000.true,
    )

pub returns : goal.returns
unfolding step_by
returns c =
    simp (
      le-ltb _ _ c.if-whole-lt100000.false,
      le-ltb _ _ c.if-whole-lt1000000.false,
      le-ltb _ _ c.if-whole-lt10000000.false,
      le-ltb _ _ c.if-whole-lt100000000.false,
      le-ltb _ _ c.if-whole-lt1000000000.false,
    )
