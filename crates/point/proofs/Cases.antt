-- The bounds of a word's parts, and what TRCB sends in each of its three cases. Assumes nothing.
use Prim.Native.Nat.{ℕ, ◌%◌, ◌≤◌}
use native.Mathlib.Omega.{arith}
use mathlib.Core.Bool.{Bool, true, false, and-eq-true_iff}
use mathlib.Core.Path.{◌≡◌}
use lib.Dec.{leb, eqb}
use borrow.Author.Tests.{leb-true, leb-false, eq-eqb, ne_eqb}
use Rattle.laws.proofs.Tests.{split, cond_by}
use Rattle.point.specs.Point.{is_negative, magnitude_of, exponent_byte, top_byte, is_legal, single_of, float_of}

pub magnitude_le : (w : ℕ) → magnitude_of w ≤ 32768
unfolding magnitude_of
magnitude_le w =
    let low = w % 65536 in
    cond_by (λ n. n ≤ 32768) (is_negative w)
    (λ e. omega (arith, leb-true 32768 low e)) (λ e. omega (arith, leb-false 32768 low e))

-- m = 0 has no minus sign
pub zero_positive : (w : ℕ) → magnitude_of w ≡ 0 → is_negative w ≡ false
unfolding magnitude_of
zero_positive w z = split (is_negative w) (λ e. absurd (let some = rw e at z in omega arith)) (λ e. e)

pub exponent_le : (w : ℕ) → is_legal w ≡ true → exponent_byte w ≤ 236
unfolding is_legal
exponent_le w h = leb-true (exponent_byte w) 236 ((and-eq-true_iff (eqb (top_byte w) 0) (leb (exponent_byte w) 236)).0 h).1

module _ (w : ℕ) where
  pub no-point : is_legal w ≡ false → float_of w ≡ 0x7FC00000
  unfolding float_of
  no-point l = rw l

  pub no_magnitude : is_legal w ≡ true → magnitude_of w ≡ 0 → float_of w ≡ 0
  unfolding float_of
  no_magnitude l z = rw (l, eq-eqb (magnitude_of w) 0 z)

  pub some_magnitude : {a e : ℕ} {s : Bool} → is_legal w ≡ true → a ≡ magnitude_of w → (a ≡ 0 → ⊥) → e ≡ exponent_byte w → s ≡ is_negative w
      → float_of w ≡ single_of s a e
  unfolding float_of
  some_magnitude {a} l m z x n = rw (l, ← m, ← x, ← n, ne_eqb a 0 z)
