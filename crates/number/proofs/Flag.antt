-- A flag as a number. Assumes nothing.
use Prim.Native.Nat.{◌≤◌}
use mathlib.Core.Path.{◌≡◌, refl}
use mathlib.Core.Bool.{Bool, true, false, cond}
use native.Mathlib.Omega.{arith}
use mir.Val.{bool_byte}

-- 1 where the flag is set, else 0
pub flag_value : (b : Bool) → bool_byte b ≡ cond b 1 0
flag_value true = refl
flag_value false = refl

pub flag_le : (b : Bool) → bool_byte b ≤ 1
flag_le true = omega arith
flag_le false = omega arith
