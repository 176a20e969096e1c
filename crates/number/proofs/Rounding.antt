-- Rounding to a multiple of a step. Assumes nothing.
use Prim.Native.Nat.{ℕ, ◌+◌, ◌*◌, ◌/◌, ◌≤◌}
use mathlib.Core.Bool.{Bool, true, false, cond}
use native.Mathlib.Nat.{div-mul-le_self, add-mul, one-mul, add-zero}
use native.Mathlib.Omega.{arith}

-- a number rounded, up where the flag is set
pub rounded_le : (w s : ℕ) (up : Bool) → (w / s + cond up 1 0) * s ≤ w + s
rounded_le w s true = rw (add-mul (w / s) 1 s, one-mul s) (omega (arith, div-mul-le_self w s))
rounded_le w s false = rw (add-zero (w / s)) (omega (arith, div-mul-le_self w s))
