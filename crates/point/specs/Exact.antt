-- The promise on TRCB's float (§8.2), proved of every word in `proofs/Exact.antt`: it has exactly the point's value.
-- Assumes nothing.
use Rattle.std.specs.Prelude.{ℕ, ◌+◌, ◌*◌, ◌^◌, ◌≤◌, true, false, ◌≡◌}
use Rattle.std.specs.Float.{nan, binary32}
use Rattle.std.specs.Float.Ieee.{of_bits}
use Rattle.std.specs.Float.Ieee.Exact.{HasValue}
use Rattle.point.specs.Single.{sign_field, exponent_field, fraction_field}
use Rattle.point.specs.Point.{is_negative, magnitude_of, exponent_byte, is_legal, no_point, float_of}
use Rattle.point.specs.Bytes.{little_endian, bytes_number}

-- §8.2: the single x is a normal number (E from 1 to 254) with the sign of m, and its value, (2^23 + F) * 2^(E - 150),
-- is the point's, m * 2^(e - 124) (§7.1). Each side of `value` is 2^150 times that.
pub record SameValue (w x : ℕ) : Type 0 where
  pub sign : sign_field x ≡ is_negative w
  pub least : 1 ≤ exponent_field x
  pub most : exponent_field x ≤ 254
  pub value : (2 ^ 23 + fraction_field x) * 2 ^ exponent_field x ≡ magnitude_of w * 2 ^ (exponent_byte w + 26)

-- §8.2: the same in the toolchain's own account of IEEE singles: x read as one is finite, has the sign of m and the
-- magnitude |m| * 2^e / 2^124.
abbrev pub ReadAs : ℕ → ℕ → Type 0
ReadAs w x = HasValue (of_bits binary32 x) (is_negative w) (magnitude_of w * 2 ^ exponent_byte w) (2 ^ 124)

-- §8.2: a legal point is sent exactly, m = 0 as +0; any other word is sent as one pattern, a NaN. The last field says
-- that the four bytes, low byte first (§8.1), are the whole pattern.
pub record ExactFloat (w : ℕ) : Type 0 where
  pub same : is_legal w ≡ true → (magnitude_of w ≡ 0 → ⊥) → SameValue w (float_of w)
  pub zero : is_legal w ≡ true → magnitude_of w ≡ 0 → float_of w ≡ 0
  pub none : is_legal w ≡ false → float_of w ≡ no_point
  pub read : is_legal w ≡ true → ReadAs w (float_of w)
  pub none_read : is_legal w ≡ false → of_bits binary32 (float_of w) ≡ nan
  pub bytes : bytes_number (little_endian (float_of w)) ≡ float_of w
