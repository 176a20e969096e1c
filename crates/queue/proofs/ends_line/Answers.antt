-- `queue::ends_line` meets its contract. Assumes nothing.
use Rattle.std.proofs.Common.{rules}
use Rattle.queue.specs.Queue.{ends_line}
use Rattle.queue.proofs.ends_line.Goals as goal

pub returns-then-b-eq10 : goal.returns-then-b-eq10
unfolding ends_line
returns-then-b-eq10 c = search rules

pub returns-then-port-eq-RS232 : goal.returns-then-port-eq-RS232
unfolding ends_line
returns-then-port-eq-RS232 c = search rules

pub returns-else-port-eq-RS232 : goal.returns-else-port-eq-RS232
unfolding ends_line
returns-else-port-eq-RS232 c = search rules
