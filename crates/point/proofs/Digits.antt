-- The highest digit of a magnitude from 1 to 32768, and the fields of the single that it gives. Assumes nothing.
use Prim.Native.Nat.{ℕ, suc, ◌+◌, ◌-◌, ◌*◌, ◌%◌, ◌^◌, ◌≤◌, ◌<◌}
use native.Mathlib.Nat.{le_trans, le_of_eq, mul_assoc, mul-le-mul_right, lt_of_not-le, le_of_suc-le-suc}
use native.Mathlib.Omega.{arith}
use mathlib.Core.Bool.{Bool, true, false}
use mathlib.Core.Path.{◌≡◌, sym, ap, ◌∙◌, subst}
use lib.Count.{count_leading_zeros, leading_top}
use lib.Pow.{pow-add, pow_mono, shl_lt}
use borrow.Author.Tests.{le-leb, lt-leb}
use Rattle.point.specs.Single.{sign_field, exponent_field, fraction_field, pattern}
use Rattle.point.specs.Point.{highest, single_of}

-- a moved up until its highest digit is at place 23, by a shift of 8 less than its leading zeros
pub record Placed (a : ℕ) : Type 0 where
  pub zeros : count_leading_zeros 32 a + highest a ≡ 31
  pub small : highest a ≤ 15
  pub least : 2 ^ 23 ≤ a * 2 ^ (23 - highest a)
  pub most : a * 2 ^ (23 - highest a) < 2 ^ 24
  pub shifted : (a * 2 ^ (count_leading_zeros 32 a - 8)) % 2 ^ 32 ≡ a * 2 ^ (23 - highest a)

moved : (a j : ℕ) → j ≤ 15 → 2 ^ j ≤ a → a < 2 ^ suc j → (2 ^ 23 ≤ a * 2 ^ (23 - j)) × (a * 2 ^ (23 - j) < 2 ^ 24)
moved a j h lo hi =
    let up : j + (23 - j) ≡ 23 = omega arith in
    let over : suc j + (23 - j) ≡ 24 = omega arith in (
      subst (λ (n : ℕ). 2 ^ n ≤ a * 2 ^ (23 - j)) up (le_trans (le_of_eq (pow-add 2 j (23 - j))) (mul-le-mul_right (2 ^ (23 - j)) lo)),
      subst (λ (n : ℕ). a * 2 ^ (23 - j) < 2 ^ n) over (shl_lt (suc j) (23 - j) hi),
    )

highest_is : (a j : ℕ) → count_leading_zeros 32 a + suc j ≡ 32 → highest a ≡ j
unfolding highest
highest_is a j h = omega arith

below_16 : (a j : ℕ) → a ≤ 32768 → 2 ^ j ≤ a → j ≤ 15
below_16 a j h lo = le_of_suc-le-suc (lt_of_not-le (λ (g : 16 ≤ j). omega (arith, pow_mono g)))

pub placed : (a : ℕ) → 0 < a → a ≤ 32768 → Placed a
placed a p h =
    let t = leading_top 32 a p (omega arith) in
    let is = highest_is a t.0 t.1 in
    let small = below_16 a t.0 h t.2 in
    let m = moved a t.0 small t.2 t.3 in
    let shift : count_leading_zeros 32 a - 8 ≡ 23 - t.0 = omega arith in
    record { zeros = omega arith; small = omega arith; least = rw is m.0; most = rw is m.1; shifted = rw (is, shift) (omega arith) }

-- the sign bit stands apart from the other fields
pub with-sign : (a e : ℕ) → single_of true a e ≡ 2 ^ 31 + single_of false a e
unfolding single_of pattern
with-sign a e = omega arith

module _ (a e : ℕ) (p : 0 < a) (h : a ≤ 32768) (l : e ≤ 236) where
  pub single_lt : single_of false a e < 2 ^ 31
  unfolding single_of pattern
  single_lt = omega (arith, placed a p h)

  pub single_fits : (s : Bool) → single_of s a e < 2 ^ 32
  single_fits true = omega (arith, single_lt, with-sign a e)
  single_fits false = omega (arith, single_lt)

  pub sign_of : (s : Bool) → sign_field (single_of s a e) ≡ s
  unfolding sign_field single_of pattern
  sign_of true = le-leb (2 ^ 31) (single_of true a e) (omega arith)
  sign_of false = lt-leb _ _ single_lt

  pub exponent_of_lem : (s : Bool) → exponent_field (single_of s a e) ≡ highest a + e + 3
  unfolding exponent_field single_of pattern
  exponent_of_lem true = omega (arith, placed a p h)
  exponent_of_lem false = omega (arith, placed a p h)

  pub fraction_of : (s : Bool) → 2 ^ 23 + fraction_field (single_of s a e) ≡ a * 2 ^ (23 - highest a)
  unfolding fraction_field single_of pattern
  fraction_of true = omega (arith, placed a p h)
  fraction_of false = omega (arith, placed a p h)

-- what the shift of the fraction takes from the exponent comes back
pub scaled : (a k e : ℕ) → k ≤ 23 → a * 2 ^ (23 - k) * 2 ^ (k + e + 3) ≡ a * 2 ^ (e + 26)
scaled a k e h =
    let sum : 23 - k + (k + e + 3) ≡ e + 26 = omega arith in
    mul_assoc a (2 ^ (23 - k)) (2 ^ (k + e + 3)) ∙ ap (λ (n : ℕ). a * n) (sym (pow-add 2 (23 - k) (k + e + 3)) ∙ ap (λ (n : ℕ). 2 ^ n) sum)
