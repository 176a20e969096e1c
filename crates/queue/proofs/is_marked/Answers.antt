-- `queue::is_marked` meets its contract. Assumes nothing.
use Rattle.std.proofs.Common.{rules}
use Rattle.queue.specs.Queue.{is_marked}
use Rattle.queue.proofs.is_marked.Goals as goal

pub returns-then-port-ne-RS232 : goal.returns-then-port-ne-RS232
unfolding is_marked
returns-then-port-ne-RS232 c = search rules

pub returns-else-port-ne-RS232 : goal.returns-else-port-ne-RS232
unfolding is_marked
returns-else-port-ne-RS232 c = search rules
