-- `check_input::source::read_input` meets its contract: at each turn some bytes were read, and the memory is the one
-- after them. Assumes nothing.
use mathlib.Core.Path.{◌≡◌}
use lib.ListN.{length}
use Rattle.check_input.specs.Bytes.{memory, start_input}
use Rattle.check_input.specs.Whole.{Reads}
use Rattle.check_input.proofs.source.read_input.Given as goal

abbrev pub invariant-loop : goal.invariant-loop
invariant-loop g l = (65536 ≡ length l.chunk) × (length l.script ≡ length l.initial.script)
    × Reads (memory start_input l.initial.script) (memory l.input l.script)
