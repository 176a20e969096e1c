-- `format::push_padded` meets its contract: the digits left to write, added to the text so far, make what all of them
-- make. Assumes nothing.
use Prim.Native.Nat.{◌≤◌}
use mathlib.Core.Path.{◌≡◌}
use lib.ListN.{length}
use Rattle.format.specs.Text.{padded}
use Rattle.format.specs.Parts.{text_limit, bytes_of, appended}
use Rattle.format.proofs.push_padded.Given as goal

abbrev pub invariant-loop-position : goal.invariant-loop-position
invariant-loop-position l =
    (length (bytes_of l.text) ≤ text_limit) ×
    (appended (bytes_of l.initial.text) (padded l.width l.value) ≡ appended (bytes_of l.text) (padded l.position l.value))
