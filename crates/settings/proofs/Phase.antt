-- The phase is brought by whole turns into the range that is kept. Assumes nothing.
use Prim.Native.Nat.{ℕ, ◌%◌, ◌≤◌}
use mathlib.Core.Path.{◌≡◌}
use native.Mathlib.Omega.{arith}
use Rattle.settings.specs.Table.{turn, phase, turned_of}

-- r lies in the range that is kept, and whole turns away from x
pub record Turned (x r : ℕ) : Type 0 where
  pub least : phase.least ≤ r
  pub most : r ≤ phase.most
  pub turns : r % turn ≡ x % turn

-- what is kept of a phase lies so
pub turned_is : (x : ℕ) → Turned x (turned_of x)
unfolding turned_of
turned_is x = record { least = omega arith; most = omega arith; turns = omega arith }

-- and no other does
pub turned_only : (x r : ℕ) → Turned x r → r ≡ turned_of x
unfolding turned_of
turned_only x r h = omega arith
