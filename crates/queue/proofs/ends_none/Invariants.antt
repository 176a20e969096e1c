-- `queue::ends_none` meets its contract: no block that is passed ends a line, and what is left decides. Assumes nothing.
use mathlib.Core.Path.{◌≡◌}
use lib.ListN.{length}
use Rattle.queue.specs.Queue.{no_end}
use Rattle.queue.proofs.ends_none.Given as goal

abbrev pub invariant-loop-block : goal.invariant-loop-block
invariant-loop-block l = no_end l.port l.rest ≡ no_end l.port l.bytes

abbrev pub decreases-loop-block : goal.decreases-loop-block
decreases-loop-block l = length l.rest
