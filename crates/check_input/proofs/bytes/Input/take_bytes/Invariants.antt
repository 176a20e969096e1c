-- `check_input::bytes::Input::take_bytes` meets its contract: what is left of the bytes gives from here what all give
-- from the start. Assumes nothing.
use mathlib.Core.Path.{◌≡◌}
use lib.ListN.{length, drop}
use Rattle.check_input.specs.Bytes.{memory, after_bytes}
use Rattle.check_input.proofs.bytes.Input.take_bytes.Given as goal

abbrev pub invariant-loop-b : goal.invariant-loop-b
invariant-loop-b l = (length l.script ≡ length l.initial.script)
    ×
    (after_bytes (drop l.b-index l.bytes) (memory l.self l.script) ≡ after_bytes l.bytes
    (memory l.initial.self l.initial.script))
