-- A number's digits by their places: its whole part, its half and its rest. Assumes nothing.
use Prim.Native.Nat.{ℕ, zero, suc, ◌+◌, ◌-◌, ◌*◌, ◌^◌, ◌<◌, ◌≤◌, min}
use mathlib.Core.Path.{◌≡◌, refl, sym, ap, ◌∙◌}
use mathlib.Core.Bool.{Bool, true, false, ◌&&◌, and-eq-true_iff}
use mathlib.Core.List.{List, [], ◌∷◌, ◌++◌}
use native.Mathlib.Omega.{arith}
use native.Mathlib.Numerals.{add-one, one-add}
use native.Mathlib.Nat.{zero-add, suc-add, add-zero, add-suc, add_assoc, mul_assoc, mul_comm, add-mul, mul-one, zero-mul, pow-suc, pow-zero, one-le-pow, mul-le-mul_right, pow-le-pow_right, div-eq_of_lt, mod-eq_of_lt}
use lib.Dec.{leb, ltb, eqb}
use lib.Arith.{digits_div, digits_mod}
use lib.ListN.{length, length-append, get_or, drop, drop_of_length-le, get_or-eq_default}
use lib.Seq.{drop-cons}
use borrow.Author.Tests.{le-leb, lt-leb, leb-true, leb-false, ltb-true, ltb-false, ne_eqb, eqb-true, eqb-false}
use Rattle.number.specs.Number.{all_digits, is_digit}
use Rattle.number.specs.Value.{decimal_after, decimal}
use Rattle.number.specs.Parts.{cap, quantity_of}
use Rattle.number.specs.TextParts.{digit, digits_value, all_zero, moved}
use Rattle.laws.proofs.Tests.{split, and_first, and_second}

-- n digits and then m: the first n make the upper part
pub places_add : (ds : List ℕ) (k n m : ℕ) → digits_value ds k (n + m) ≡ digits_value ds k n * 10 ^ m + digits_value ds (k + n) m
unfolding digits_value
places_add ds k n zero = rw (add-zero n, pow-zero, mul-one, add-zero)
places_add ds k n (suc m) =
    rw (add-suc n m, pow-suc)
    (omega (arith, places_add ds k n m, ap (λ i. digit ds i) (add_assoc k n m), mul_assoc (digits_value ds k n) (10 ^ m) 10))

one_place : (ds : List ℕ) (k : ℕ) → digits_value ds k 1 ≡ digit ds k
unfolding digits_value
one_place ds k = rw (add-zero k) (zero-add _)

-- the first digit, and the others
pub places_first : (ds : List ℕ) (k m : ℕ) → digits_value ds k (suc m) ≡ digit ds k * 10 ^ m + digits_value ds (suc k) m
places_first ds k m =
    ap (λ i. digits_value ds k i) (sym (one-add m)) ∙ places_add ds k 1 m ∙ rw (one_place ds k, add-one k)

pub places_shift : (d : ℕ) (ds : List ℕ) (k n : ℕ) → digits_value (d ∷ ds) (suc k) n ≡ digits_value ds k n
unfolding digits_value
places_shift d ds k zero = refl
places_shift d ds k (suc n) = rw (places_shift d ds k n, suc-add k n)

decimal-after : (ds : List ℕ) (v : ℕ) → decimal_after v ds ≡ v * 10 ^ length ds + digits_value ds 0 (length ds)
unfolding decimal_after digits_value
decimal-after [] v = omega arith
decimal-after (d ∷ ds) v =
    let n = length ds in
    decimal-after ds (v * 10 + (d - 48))
    ∙ rw (pow-suc 10 n, places_first (d ∷ ds) 0 n, places_shift d ds 0 n, add-mul (v * 10) (d - 48) (10 ^ n), mul_assoc v 10 (10 ^ n), mul_comm 10 (10 ^ n)) (add_assoc _ _ _)

pub decimal_places : (ds : List ℕ) → decimal ds ≡ digits_value ds 0 (length ds)
decimal_places ds = decimal-after ds 0 ∙ rw (zero-mul (10 ^ length ds)) (zero-add _)

-- past the last digit all are 0
pub places_past : (ds : List ℕ) (k n : ℕ) → length ds ≤ k → digits_value ds k n ≡ 0
unfolding digits_value
places_past ds k zero h = refl
places_past ds k (suc n) h = rw (places_past ds k n h, get_or-eq_default ds 48 {n = k + n} (omega arith))

pub places_zeros : (ds : List ℕ) (m : ℕ) → digits_value ds 0 (length ds + m) ≡ decimal ds * 10 ^ m
places_zeros ds m =
    places_add ds 0 (length ds) m
    ∙ rw (places_past ds (0 + length ds) m (omega arith), decimal_places ds) (add-zero _)

-- a digit's byte lies between those of 0 and 9
pub digit_range : (ds : List ℕ) → all_digits ds ≡ true → (k : ℕ) → (48 ≤ get_or ds k 48) × (get_or ds k 48 ≤ 57)
unfolding all_digits
digit_range [] h k = omega arith
digit_range (d ∷ ds) h zero =
    let both = (and-eq-true_iff (leb 48 d) (leb d 57)).0 (and_first (is_digit d) (all_digits ds) h) in
    (leb-true 48 d both.0, leb-true d 57 both.1)
digit_range (d ∷ ds) h (suc k) = digit_range ds (and_second (is_digit d) (all_digits ds) h) k

-- a first digit b, of the weight p, above a rest r
half_digit : (b p r : ℕ) → 0 < p → r < p → 48 ≤ b → leb (p * 10) (2 * ((b - 48) * p + r)) ≡ leb 53 b
half_digit b p r hp hr hb =
    split (leb 53 b)
    (λ z. let l : 5 ≤ b - 48 = omega (arith, leb-true 53 b z) in
    rw (z, le-leb (p * 10) (2 * ((b - 48) * p + r)) (omega (arith, mul-le-mul_right p l))))
    (λ z. let l : b - 48 ≤ 4 = omega (arith, leb-false 53 b z) in
    rw (z, lt-leb (p * 10) (2 * ((b - 48) * p + r)) (omega (arith, mul-le-mul_right p l))))

zero-digit : (b p r : ℕ) → 0 < p → 48 ≤ b → eqb ((b - 48) * p + r) 0 ≡ (eqb b 48 && eqb r 0)
zero-digit b p r hp hb =
    split (eqb b 48) (λ z. rw (eqb-true b 48 z, zero-mul p, zero-add r))
    (λ z. let l : 1 ≤ b - 48 = omega (arith, eqb-false b 48 z) in
    rw (z, ne_eqb ((b - 48) * p + r) 0 (λ e. omega (arith, mul-le-mul_right p l))))

module _ (ds : List ℕ) (all : all_digits ds ≡ true) where
  digit_low : (k : ℕ) → digit ds k < 10
  digit_low k = omega (arith, digit_range ds all k)

  pub places_below : (k n : ℕ) → digits_value ds k n < 10 ^ n
  unfolding digits_value
  places_below k zero = omega arith
  places_below k (suc n) = rw (pow-suc 10 n) (omega (arith, places_below k n, digit_low (k + n)))

  -- whether the digits from k on make at least a half, by the first of them
  pub half_first : (k n : ℕ) → length ds ≤ k + n → leb (10 ^ n) (2 * digits_value ds k n) ≡ leb 53 (get_or ds k 48)
  half_first k zero h =
      rw (get_or-eq_default ds 48 {n = k} (omega arith), places_past ds k 0 (omega arith))
  half_first k (suc n) h =
      rw (pow-suc 10 n, places_first ds k n)
      (half_digit (get_or ds k 48) (10 ^ n) (digits_value ds (suc k) n) (one-le-pow n 10 (omega arith)) (places_below (suc k) n) (digit_range ds all k).0)

  -- whether the digits from k on are all 0
  pub rest_zero : (n k : ℕ) → length ds ≤ k + n → eqb (digits_value ds k n) 0 ≡ all_zero (drop k ds)
  unfolding digits_value all_zero
  rest_zero zero k h = rw (drop_of_length-le ds {i = k} (omega arith))
  rest_zero (suc n) k h =
      split (ltb k (length ds))
      (λ p. rw (
        drop-cons ds k 48 (ltb-true k (length ds) p),
        places_first ds k n,
        zero-digit (get_or ds k 48) (10 ^ n) (digits_value ds (suc k) n) (one-le-pow n 10 (omega arith))
            (digit_range ds all k).0,
        rest_zero n (suc k) (omega arith),
      ))
      (λ p. let l = ltb-false k (length ds) p in
      rw (places_past ds k (suc n) l, drop_of_length-le ds {i = k} l))

module _ (negative : Bool) (front back : List ℕ) (up down : ℕ) (all : all_digits (front ++ back) ≡ true) where
  over_is : decimal (front ++ back) * 10 ^ up ≡ digits_value (front ++ back) 0 (length front + length back + up)
  over_is = sym (places_zeros (front ++ back) up) ∙ ap (λ n. digits_value (front ++ back) 0 (n + up)) (length-append front back)

  -- the point stands among the digits, or after them: kept digits before it
  pub scaled_within : (kept : ℕ) → kept + down ≡ length front + up →
      quantity_of (moved negative front back up down)
      ≡ record { negative = negative; whole = min cap (digits_value (front ++ back) 0 kept); half = leb 53 (get_or (front ++ back) kept 48); exact = all_zero (drop kept (front ++ back)) }
  scaled_within kept e =
      let j = length back + down in
      let p = digits_value (front ++ back) 0 kept in
      let r = digits_value (front ++ back) kept j in
      let s : length front + length back + up ≡ kept + j = omega arith in
      let o : decimal (front ++ back) * 10 ^ up ≡ p * 10 ^ j + r =
      over_is ∙ ap (λ n. digits_value (front ++ back) 0 n) s ∙ places_add (front ++ back) 0 kept j ∙ rw (zero-add kept) in
      let l : r < 10 ^ j = places_below (front ++ back) all kept j in
      let n : length (front ++ back) ≤ kept + j = omega (arith, length-append front back) in
      rw (o, digits_div p {m = 10 ^ j} l, digits_mod p {m = 10 ^ j} l, half_first (front ++ back) all kept j n, rest_zero (front ++ back) all j kept n)

  -- the point stands before the first digit, with a 0 between: less than a half
  pub scaled_beyond : length front + up < down →
      quantity_of (moved negative front back up down)
      ≡ record { negative = negative; whole = 0; half = false; exact = all_zero (drop 0 (front ++ back)) }
  scaled_beyond h =
      let k = length front + length back + up in
      let j = length back + down in
      let n = digits_value (front ++ back) 0 k in
      let b : n < 10 ^ k = places_below (front ++ back) all 0 k in
      let m : 10 ^ suc k ≤ 10 ^ j = pow-le-pow_right {n = 10} (omega arith) (omega arith) in
      let t : 10 ^ suc k ≡ 10 ^ k * 10 = pow-suc 10 k in
      let l : n < 10 ^ j = omega arith in
      rw (over_is, div-eq_of_lt l, mod-eq_of_lt l, lt-leb (10 ^ j) (2 * n) (omega arith), rest_zero (front ++ back) all k 0 (omega (arith, length-append front back)))
