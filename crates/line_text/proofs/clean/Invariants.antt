-- `line_text::clean` meets its contract: what is kept and what is still to come make the whole. Assumes nothing.
use Prim.Native.Nat.{◌≤◌}
use mathlib.Core.Path.{◌≡◌}
use mathlib.Core.List.{◌++◌}
use lib.ListN.{length, take, drop}
use Rattle.line_text.specs.Clean.{cleaned}
use Rattle.line_text.proofs.clean.Given as goal

abbrev pub invariant-loop-b : goal.invariant-loop-b
invariant-loop-b l =
    (l.len ≤ 256) × (length l.bytes ≡ 256) ×
    (take 256 (take l.len l.bytes ++ cleaned (drop l.b-index l.line)) ≡ take 256 (cleaned l.line))
