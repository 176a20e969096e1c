-- `lockin::byte_run::run_bytes` meets its contract: what is left of the run does what the whole does. Assumes nothing.
use Prim.Native.Nat.{◌+◌, ◌-◌}
use lib.ListN.{length}
use Rattle.lockin.proofs.WholeRun.{OnRun}
use Rattle.lockin.proofs.byte_run.run_bytes.Given as goal

abbrev pub invariant-loop-p : goal.invariant-loop-p
invariant-loop-p l = OnRun l.run l.mark l.initial.one l.initial.two l.initial.reply l.initial.p l.one l.two l.reply l.p

abbrev pub decreases-loop-p : goal.decreases-loop-p
decreases-loop-p l = length l.run + 1 - l.p.taken
