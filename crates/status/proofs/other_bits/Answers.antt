-- `status::other_bits` meets its contract: the flags of six bits add up to less than 64. Assumes nothing.
use Prim.Native.Nat.{ℕ, ◌+◌, ◌^◌, ◌≤◌, ◌<◌}
use native.Mathlib.Omega.{arith}
use mathlib.Core.Bool.{Bool}
use mathlib.Core.Path.{◌≡◌}
use Rattle.status.specs.Bits.{flag}
use Rattle.status.specs.Status.{other_bits}
use Rattle.status.proofs.Flags.{flag_le}
use Rattle.status.proofs.other_bits.Goals.{After-flag_of-standard}
use Rattle.status.proofs.other_bits.Goals as goal

module _ (c : After-flag_of-standard) where
  known : (t : Bool) (i n : ℕ) → n ≡ flag t i → n ≤ 2 ^ i
  known t i n e = rw e (flag_le t i)

  sum_fits :
      c.flag_of-at_rest.result
      + c.flag_of-idle.result
      + c.flag_of-errors.result
      + c.flag_of-lia.result
      + c.flag_of-waiting.result
      + c.flag_of-standard.result
      < 64
  sum_fits =
      omega (
        arith,
        known _ _ _ c.flag_of-at_rest.ensures,
        known _ _ _ c.flag_of-idle.ensures,
        known _ _ _ c.flag_of-errors.ensures,
        known _ _ _ c.flag_of-lia.ensures,
        known _ _ _ c.flag_of-waiting.ensures,
        known _ _ _ c.flag_of-standard.ensures,
      )

pub overflow_add-result : goal.overflow_add-result
overflow_add-result c = omega (arith, sum_fits (goal.at.overflow_add-result c).After-flag_of-standard)

pub overflow_add-result-2 : goal.overflow_add-result-2
overflow_add-result-2 c = omega (arith, sum_fits (goal.at.overflow_add-result-2 c).After-flag_of-standard)

pub overflow_add-result-3 : goal.overflow_add-result-3
overflow_add-result-3 c = omega (arith, sum_fits (goal.at.overflow_add-result-3 c).After-flag_of-standard)

pub overflow_add-result-4 : goal.overflow_add-result-4
overflow_add-result-4 c = omega (arith, sum_fits (goal.at.overflow_add-result-4 c).After-flag_of-standard)

pub overflow_add-result-5 : goal.overflow_add-result-5
overflow_add-result-5 c = omega (arith, sum_fits (goal.at.overflow_add-result-5 c).After-flag_of-standard)

pub returns : goal.returns
unfolding other_bits
returns c =
    rw (
      ← c.common.ensures,
      ← c.common-2.ensures,
      ← c.common-3.ensures,
      ← c.flag_of-at_rest.ensures,
      ← c.flag_of-idle.ensures,
      ← c.flag_of-errors.ensures,
      ← c.flag_of-lia.ensures,
      ← c.flag_of-waiting.ensures,
      ← c.flag_of-standard.ensures,
    )
    (omega arith)
