-- `settings::in_ranges` meets its contract: the test so far is that of the entries passed. Assumes nothing.
use mathlib.Core.Path.{◌≡◌, refl, ◌∙◌}
use native.Mathlib.Omega.{arith}
use Rattle.settings.specs.Table.{entries}
use Rattle.settings.specs.Valid.{every}
use Rattle.settings.proofs.Parts.{range_more}
use Rattle.settings.proofs.in_ranges.Goals as goal

pub loop-entry-init : goal.loop-entry-init
unfolding every
loop-entry-init c = refl

pub loop-entry-preserved : goal.loop-entry-preserved
loop-entry-preserved c =
    rw c.loop-entry.invariant
    (range_more c.args.s.values _ _
    c.leasts-least.ensures c.mosts-most.ensures c.loop-entry.entry c.loop-entry-test.true)

pub returns : goal.returns
returns c = let e : c.loop-entry.entry ≡ entries = omega arith in c.loop-entry.invariant ∙ rw e
