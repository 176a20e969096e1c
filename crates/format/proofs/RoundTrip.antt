-- What is written, read again, is the same value, once over the decimals. Assumes nothing.
use Prim.Native.Nat.{ℕ, zero, suc, ◌+◌, ◌*◌, ◌/◌, ◌^◌, ◌≤◌, ◌<◌}
use mathlib.Core.Bool.{true, false, cond}
use mathlib.Core.Path.{◌≡◌, refl, sym, ap, ◌∙◌}
use mathlib.Core.List.{List, [], ◌∷◌, ◌++◌}
use native.Mathlib.Omega.{arith}
use native.Mathlib.Numerals.{add-one}
use native.Mathlib.Nat.{one-le-pow, mul-div_cancel, mul-mod_left, min-eq_right, add-zero}
use borrow.Author.Tests.{le-leb, lt-leb, le-ltb}
use lib.Dec.{ltb, eqb, eqb-suc-zero}
use lib.ListN.{length, drop, length-append}
use lib.Seq.{take-length, take-append_seam, drop-append-add}
use Rattle.split.specs.Divide.{span, before, after}
use Rattle.number.specs.Number.{minus, point, letter_e, begins, unsigned, digit_limit, has_exponent, is_mantissa, is_number}
use Rattle.number.specs.Value.{decimal_after, exact_of}
use Rattle.number.specs.Parts.{cap, read_of}
use Rattle.laws.proofs.Tests.{split}
use Rattle.format.specs.Text.{padded, digit_count, plain, fixed, sign, distance, signed_text}
use Rattle.format.specs.RoundTrip.{exactly, ReadAgain}
use Rattle.format.proofs.Digits.{padded-empty, padded-length, places_some, places_whole}
use Rattle.format.proofs.Reading.{span-padded, span_all, digits-padded, digits_all, unsigned-padded, begins-padded, decimal-whole}

-- a text whose unsigned part u has no E, a whole part before its point and the decimals after it
module _ (d n : ℕ) (s u : List ℕ) (signless : unsigned s ≡ u) (free : span letter_e u ≡ length u)
    (front : before point u ≡ plain (n / 10 ^ d)) (back : after point u ≡ padded d n) where
  mantissa : before letter_e u ≡ u
  mantissa = rw (free, take-length)

  no-exponent : has_exponent u ≡ false
  no-exponent = rw free (le-ltb (length u) (length u) (omega arith))

  is_mantissa_lem : d < digit_limit → n < 10 ^ digit_limit → is_mantissa u ≡ true
  unfolding is_mantissa plain
  is_mantissa_lem l h =
      let w = n / 10 ^ d in
      let e : length (padded (digit_count w) w ++ padded d n) ≡ digit_count w + d = rw (length-append, padded-length (digit_count w) w, padded-length d n) in
      rw (
        front,
        back,
        e,
        digits-padded (digit_count w) w (padded d n),
        digits_all d n,
        le-leb 1 (digit_count w + d) (omega (arith, places_some w)),
        le-leb (digit_count w + d) digit_limit (places_whole digit_limit d n l h),
      )

  is_number_lem : d < digit_limit → n < 10 ^ digit_limit → is_number s ≡ true
  unfolding is_number
  is_number_lem l h = rw (signless, no-exponent, mantissa) (is_mantissa_lem l h)

  exact : exact_of d s ≡ record { negative = begins minus s; over = n * 10 ^ d; under = 10 ^ d }
  unfolding exact_of unsigned begins decimal_after
  exact = rw (signless, no-exponent, mantissa, front, back, decimal-whole d n, padded-length d n, add-zero)

  read : d < digit_limit → n ≤ cap → read_of d s ≡ exactly (begins minus s) n
  unfolding read_of
  read l h =
      let some : 0 < 10 ^ d = one-le-pow d 10 (omega arith) in
      rw (is_number_lem l (omega arith), exact, mul-div_cancel n some, mul-mod_left n (10 ^ d), lt-leb (10 ^ d) 0 some, min-eq_right h)

-- the point and what stands behind it: nothing where there are no decimals
abbrev fraction : ℕ → ℕ → List ℕ
fraction d n = cond (eqb d 0) [] (point ∷ padded d n)

behind_free : (d n : ℕ) → span letter_e (fraction d n) ≡ length (fraction d n)
unfolding span
behind_free zero n = refl
behind_free (suc k) n = rw (eqb-suc-zero, span_all letter_e (λ m e. omega arith) (suc k) n, padded-length)

behind_point : (d n : ℕ) → span point (fraction d n) ≡ 0
unfolding span
behind_point zero n = refl
behind_point (suc k) n = rw eqb-suc-zero

behind_after : (d n : ℕ) → drop 1 (fraction d n) ≡ padded d n
behind_after zero n = sym (padded-empty n)
behind_after (suc k) n = rw eqb-suc-zero

-- the text of n has no E, its whole part before the point and its decimals after it
module _ (d n : ℕ) where
  fixed_free : span letter_e (fixed d n) ≡ length (fixed d n)
  unfolding fixed plain
  fixed_free =
      let w = n / 10 ^ d in
      span-padded letter_e (λ m e. omega arith) (digit_count w) w (fraction d n) ∙ rw (behind_free d n, length-append, padded-length (digit_count w) w)

  fixed-span : span point (fixed d n) ≡ length (plain (n / 10 ^ d))
  unfolding fixed plain
  fixed-span =
      let w = n / 10 ^ d in
      span-padded point (λ m e. omega arith) (digit_count w) w (fraction d n) ∙ rw (behind_point d n, padded-length (digit_count w) w, add-zero)

  fixed_front : before point (fixed d n) ≡ plain (n / 10 ^ d)
  unfolding fixed
  fixed_front = rw (fixed-span, take-append_seam)

  fixed_back : after point (fixed d n) ≡ padded d n
  unfolding fixed
  fixed_back = rw (fixed-span, ← add-one (length (plain (n / 10 ^ d))), drop-append-add) (behind_after d n)

read-fixed : (d n : ℕ) (s : List ℕ) → unsigned s ≡ fixed d n → d < digit_limit → n ≤ cap → read_of d s ≡ exactly (begins minus s) n
read-fixed d n s e = read d n s (fixed d n) e (fixed_free d n) (fixed_front d n) (fixed_back d n)

read_below : (d n : ℕ) → d < digit_limit → n ≤ cap → read_of d (minus ∷ fixed d n) ≡ exactly true n
unfolding unsigned begins
read_below d n l h = read-fixed d n (minus ∷ fixed d n) refl l h

read_above : (d n : ℕ) → d < digit_limit → n ≤ cap → read_of d (fixed d n) ≡ exactly false n
unfolding fixed plain
read_above d n l h =
    let w = n / 10 ^ d in
    read-fixed d n (fixed d n) (unsigned-padded (digit_count w) w (fraction d n) (places_some w)) l h
    ∙ ap (λ t. exactly t n) (begins-padded (digit_count w) w (fraction d n) (places_some w))

pub read_again : ReadAgain
unfolding signed_text sign
read_again d bias v l h k =
    split (ltb v bias) (λ e. rw e (read_below d (distance bias v) l (omega arith)))
    (λ e. rw e (read_above d (distance bias v) l (omega arith)))
