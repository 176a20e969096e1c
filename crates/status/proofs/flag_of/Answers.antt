-- `status::flag_of` meets its contract: the weight of a bit below 8 fits. Assumes nothing.
use Prim.Native.Nat.{ℕ, ◌*◌, ◌%◌, ◌^◌, ◌<◌}
use native.Mathlib.Omega.{arith}
use mathlib.Core.Bool.{Bool, true, false}
use mathlib.Core.Path.{◌≡◌}
use mir.Val.{bool_byte}
use borrow.Author.Rules.{rules}
use Rattle.status.specs.Bits.{flag}
use Rattle.status.proofs.Bits.{weight-fits}
use Rattle.status.proofs.flag_of.Goals as goal

shifted : (test : Bool) (i : ℕ) → i < 8 → bool_byte test * 2 ^ i % 256 ≡ flag test i
unfolding flag
shifted true i h = weight-fits i h
shifted false i h = omega arith

pub returns : goal.returns
returns c = rw c.from.ensures (shifted c.args.test c.args.bit (search rules))
