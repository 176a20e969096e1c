-- TRCB's float has exactly the point's value: `exact`, for every word. Assumes nothing.
use Prim.Native.Nat.{ℕ, zero, suc, ◌+◌, ◌*◌, ◌^◌, ◌≤◌, ◌<◌}
use native.Mathlib.Nat.{mul_assoc, mul-one, zero-mul, mul_right_comm, eq_of_mul-eq-mul_right, pow-suc}
use native.Mathlib.Omega.{arith}
use mathlib.Core.Bool.{Bool, true, false}
use mathlib.Core.Path.{◌≡◌, refl, sym, ap, ◌∙◌}
use lib.Dec.{eqb, lit<}
use lib.Pow.{pow-add, pow_pos, field}
use lib.Ieee.{Float, nan, inf, fin, binary32, up, down, odd, of_fields, of_bits}
use lib.Ieee.Exact.{HasValue, odd_sign}
use borrow.Author.Tests.{ne_eqb, eqb-true, eqb-false}
use Rattle.laws.proofs.Tests.{split}
use Rattle.point.specs.Single.{sign_field, exponent_field, fraction_field}
use Rattle.point.specs.Point.{is_negative, magnitude_of, exponent_byte, is_legal, highest, float_of}
use Rattle.point.specs.Exact.{SameValue, ReadAs, ExactFloat}
use Rattle.point.proofs.Digits.{placed, single_fits, sign_of, exponent_of_lem, fraction_of, scaled}
use Rattle.point.proofs.Cases.{magnitude_le, exponent_le, zero_positive, no-point, no_magnitude, some_magnitude}
use Rattle.point.proofs.Bytes.{read_back}

-- ---- a single that is a normal number

module _ (w : ℕ) (l : is_legal w ≡ true) (z : magnitude_of w ≡ 0 → ⊥) where
  same-value : SameValue w (float_of w)
  same-value =
      let a = magnitude_of w in
      let e = exponent_byte w in
      let s = is_negative w in
      let p : 0 < a = omega arith in
      let h = magnitude_le w in
      let b = exponent_le w l in
      let q = placed a p h in
      let E = exponent_of_lem a e p h b s in
      rw (some_magnitude w l refl z refl refl)
      (record {
        sign = sign_of a e p h b s;
        least = omega arith;
        most = omega arith;
        value = rw (E, fraction_of a e p h b s) (scaled a (highest a) e (omega arith));
      })

  same_lt : float_of w < 2 ^ 32
  same_lt =
      rw (some_magnitude w l refl z refl refl)
      (single_fits (magnitude_of w) (exponent_byte w) (omega arith) (magnitude_le w) (exponent_le w l) (is_negative w))

-- ---- a pattern as the toolchain reads it

-- one value as two fractions
rescale : (v : Float) (s : Bool) (a c a' c' : ℕ) → 0 < c → a * c' ≡ a' * c → HasValue v s a c → HasValue v s a' c'
rescale nan s a c a' c' p h v = absurd v
rescale (inf t) s a c a' c' p h v = absurd v
rescale (fin t m k) s a c a' c' p h v = (
  v.0,
  eq_of_mul-eq-mul_right c p (m * up k * c') (a' * down k)
      (mul_right_comm (m * up k) c' c
      ∙ ap (λ (n : ℕ). n * c') v.1
      ∙ mul_right_comm a (down k) c'
      ∙ ap (λ (n : ℕ). n * down k) h
      ∙ mul_right_comm a' c (down k)),
)

-- a normal pattern is the whole number 2^23 + F, k places above the smallest single
normal_read : (x k : ℕ) → exponent_field x ≡ suc k → suc k ≤ 254 → of_bits binary32 x ≡ odd 24 (sign_field x) (2 ^ 23 + fraction_field x) k 149
unfolding of_bits of_fields sign_field exponent_field fraction_field
normal_read x k e l = rw (field x 8 23 ∙ e, ne_eqb (suc k) 255 (λ (g : suc k ≡ 255). omega arith))

-- 2^150 times a value, and the fraction over 2^149 that the toolchain makes of it
smaller : (q k a e : ℕ) → q * 2 ^ suc k ≡ a * 2 ^ (e + 26) → q * 2 ^ k * 2 ^ 124 ≡ a * 2 ^ e * 2 ^ 149
smaller q k a e h =
    let left : q * 2 ^ suc k ≡ q * 2 ^ k * 2 = ap (λ (n : ℕ). q * n) (pow-suc 2 k) ∙ sym (mul_assoc q (2 ^ k) 2) in
    let right : a * 2 ^ (e + 26) ≡ a * 2 ^ e * 2 ^ 26 = ap (λ (n : ℕ). a * n) (pow-add 2 e 26) ∙ sym (mul_assoc a (2 ^ e) (2 ^ 26)) in
    let half : q * 2 ^ k ≡ a * 2 ^ e * 2 ^ 25 = omega arith in
    ap (λ (n : ℕ). n * 2 ^ 124) half ∙ mul_assoc (a * 2 ^ e) (2 ^ 25) (2 ^ 124)

same_read : (w x : ℕ) → SameValue w x → ReadAs w x
same_read w x v = by (exponent_field x) refl v.least v.most v.value
  where
    by : (k : ℕ) → exponent_field x ≡ k → 1 ≤ k → k ≤ 254 → (2 ^ 23 + fraction_field x) * 2 ^ k ≡ magnitude_of w * 2 ^ (exponent_byte w + 26) → ReadAs w x
    by zero e least most value = absurd (omega arith)
    by (suc k) e least most value =
        let q = 2 ^ 23 + fraction_field x in
        rescale (of_bits binary32 x) (is_negative w) (q * 2 ^ k) (2 ^ 149) (magnitude_of w * 2 ^ exponent_byte w) (2 ^ 124) (pow_pos 149)
        (smaller q k (magnitude_of w) (exponent_byte w) value)
        (rw (normal_read x k e most, ← v.sign) (odd_sign 24 (sign_field x) q k 149))

zero-read : (w : ℕ) → is_legal w ≡ true → magnitude_of w ≡ 0 → ReadAs w (float_of w)
unfolding of_bits of_fields odd
zero-read w l z = rw (no_magnitude w l z, zero_positive w z, z) (refl, sym (mul-one (0 * 2 ^ exponent_byte w) ∙ zero-mul (2 ^ exponent_byte w)))

-- ---- the theorem

module _ (w : ℕ) where
  legal_read : is_legal w ≡ true → ReadAs w (float_of w)
  legal_read l =
      split (eqb (magnitude_of w) 0) (λ z. zero-read w l (eqb-true (magnitude_of w) 0 z))
      (λ z. same_read w (float_of w) (same-value w l (eqb-false (magnitude_of w) 0 z)))

  nan_read : is_legal w ≡ false → of_bits binary32 (float_of w) ≡ nan
  unfolding of_bits of_fields
  nan_read l = rw (no-point w l)

  float_lt : float_of w < 2 ^ 32
  float_lt =
      split (is_legal w)
      (λ l. split (eqb (magnitude_of w) 0) (λ z. rw (no_magnitude w l (eqb-true (magnitude_of w) 0 z)) (lit< tt))
      (λ z. same_lt w l (eqb-false (magnitude_of w) 0 z)))
      (λ l. rw (no-point w l) (lit< tt))

pub exact : (w : ℕ) → ExactFloat w
exact w =
    record {
      same = same-value w;
      zero = no_magnitude w;
      none = no-point w;
      bytes = read_back (float_of w) (float_lt w);
      read = legal_read w;
      none_read = nan_read w;
    }
