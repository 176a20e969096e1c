-- A number's text taken apart: sign, E, point, digits. Assumes nothing.
use Prim.Native.Nat.{ℕ, suc, ◌+◌, ◌-◌, ◌*◌, ◌<◌, ◌≤◌}
use mathlib.Core.Path.{◌≡◌, refl}
use mathlib.Core.Bool.{Bool, true, false, cond, ◌&&◌, and-false}
use Rattle.std.specs.Prelude.{Some, None}
use Rattle.std.specs.Option.{option_map}
use mathlib.Core.List.{List, [], ◌∷◌, ◌++◌}
use native.Mathlib.Omega.{arith}
use native.Mathlib.Numerals.{add-one}
use native.Mathlib.Nat.{add-zero, zero-add}
use lib.Dec.{leb, ltb, eqb}
use lib.ListN.{length, length-append, length-drop, get_or, take, drop, drop_of_length-le}
use lib.Seq.{take-length, length-take-le}
use borrow.Author.Tests.{le-leb, lt-leb, lt-ltb, le-ltb, eq-eqb, ne_eqb, ltb-true, ltb-false}
use Rattle.split.specs.Divide.{span, before, after}
use Rattle.split.proofs.Span.{span_le, rest_from}
use Rattle.laws.proofs.Tests.{split}
use Rattle.number.specs.Number.{plus, minus, point, letter_e, begins, unsigned, all_digits, digit_limit, digits, is_exponent}
use Rattle.number.specs.Number.{is_mantissa, has_exponent, is_number}
use Rattle.number.specs.Value.{decimal_after, exact_of}
use Rattle.number.specs.Parts.{read_of}
use Rattle.number.specs.TextParts.{are_digits, short_of, exponent_of, digits_of, mantissa_of, with_exponent, unsigned_of}

-- one or two digits
pub short_wrong : (t : List ℕ) → all_digits t ≡ false → None ≡ short_of t
unfolding short_of
short_wrong t e = rw (e, and-false, and-false)

pub short-none : (t : List ℕ) → length t ≤ 0 → None ≡ short_of t
unfolding short_of
short-none t h = rw (lt-leb 1 (length t) (omega arith))

pub short_many : (t : List ℕ) → 3 ≤ length t → None ≡ short_of t
unfolding short_of
short_many t h = rw (lt-leb (length t) 2 (omega arith), and-false)

pub short-one : (t : List ℕ) → 1 ≤ length t → length t ≤ 1 → all_digits t ≡ true → Some (get_or t 0 0 - 48) ≡ short_of t
unfolding short_of decimal_after
short-one [] g h e = absurd (omega arith)
short-one (a ∷ []) g h e = rw (e, zero-add (a - 48))
short-one (a ∷ b ∷ t) g h e = absurd (omega arith)

pub short-two : (t : List ℕ) → 2 ≤ length t → length t ≤ 2 → all_digits t ≡ true → Some ((get_or t 0 0 - 48) * 10 + (get_or t 1 0 - 48)) ≡ short_of t
unfolding short_of decimal_after
short-two [] g h e = absurd (omega arith)
short-two (a ∷ []) g h e = absurd (omega arith)
short-two (a ∷ b ∷ []) g h e = rw (e, zero-add (a - 48))
short-two (a ∷ b ∷ d ∷ t) g h e = absurd (omega arith)

-- the sign, or none
pub sign-minus : (s : List ℕ) → 1 ≤ length s → get_or s 0 0 ≡ 45 → (true ≡ begins minus s) × (drop 1 s ≡ unsigned s)
unfolding begins unsigned
sign-minus [] h e = absurd (omega arith)
sign-minus (b ∷ s) h e = rw (eq-eqb b 45 e) (refl, refl)

pub sign-plus : (s : List ℕ) → 1 ≤ length s → get_or s 0 0 ≡ 43 → (false ≡ begins minus s) × (drop 1 s ≡ unsigned s)
unfolding begins unsigned
sign-plus [] h e = absurd (omega arith)
sign-plus (b ∷ s) h e = rw e (refl, refl)

pub sign-none : (s : List ℕ) → length s ≤ 0 → (false ≡ begins minus s) × (s ≡ unsigned s)
unfolding begins unsigned
sign-none [] h = (refl, refl)
sign-none (b ∷ s) h = absurd (omega arith)

pub sign-other : (s : List ℕ) → 1 ≤ length s → (get_or s 0 0 ≡ 45 → ⊥) → (get_or s 0 0 ≡ 43 → ⊥) → (false ≡ begins minus s) × (s ≡ unsigned s)
unfolding begins unsigned
sign-other [] h n e = absurd (omega arith)
sign-other (b ∷ s) h n e = rw (ne_eqb b 45 n, ne_eqb b 43 e) (refl, refl)

-- an exponent: its sign, and one or two digits
pub exponent_is : (x : List ℕ) →
    exponent_of x
    ≡ option_map (λ n. record { up = cond (begins minus x) 0 n; down = cond (begins minus x) n 0 }) (short_of (unsigned x))
unfolding exponent_of is_exponent short_of
exponent_is x = split (leb 1 (length (unsigned x)) && (leb (length (unsigned x)) 2 && all_digits (unsigned x))) (λ e. rw e) (λ e. rw e)

-- the digits before and after the point
module _ (front back : List ℕ) where
  pub digits_few : length front + length back < 1 → false ≡ are_digits (front ++ back)
  digits_few h = rw (lt-leb 1 (length (front ++ back)) (omega (arith, length-append front back)))

  pub digits_many : 15 < length front + length back → false ≡ are_digits (front ++ back)
  digits_many h = rw (lt-leb (length (front ++ back)) 15 (omega (arith, length-append front back)), and-false)

  pub digits_wrong : all_digits (front ++ back) ≡ false → false ≡ are_digits (front ++ back)
  digits_wrong e = rw (e, and-false, and-false)

  pub digits_right : 1 ≤ length front + length back → length front + length back ≤ 15 → all_digits (front ++ back) ≡ true →
      true ≡ are_digits (front ++ back)
  digits_right g h e =
      rw (le-leb 1 (length (front ++ back)) (omega (arith, length-append front back)), le-leb (length (front ++ back)) 15 (omega (arith, length-append front back)), e)

-- the point
module _ (negative : Bool) (m : List ℕ) (up down p : ℕ) (e : p ≡ span 46 m) where
  pub mantissa_point : digits_of negative (take p m) (take (length m - (p + 1)) (drop (p + 1) m)) up down ≡ mantissa_of negative m up down
  unfolding mantissa_of
  mantissa_point = rw (rest_from m (p + 1), add-one p, e)

  pub mantissa_plain : length m ≤ p → digits_of negative m [] up down ≡ mantissa_of negative m up down
  unfolding mantissa_of
  mantissa_plain h =
      let l : span 46 m ≡ length m = omega (arith, span_le 46 m) in
      rw (l, take-length m, drop_of_length-le m {i = suc (length m)} (omega arith))

-- the E
module _ (negative : Bool) (u : List ℕ) (decimals e : ℕ) (is : e ≡ span 69 u) where
  pub unsigned_with : e < length u →
      with_exponent negative (take e u) decimals (exponent_of (drop (e + 1) u)) ≡ unsigned_of negative u decimals
  unfolding unsigned_of
  unsigned_with h = rw (add-one e, is, lt-ltb (span 69 u) (length u) (omega arith))

  pub unsigned-plain : length u ≤ e → mantissa_of negative u decimals 0 ≡ unsigned_of negative u decimals
  unfolding unsigned_of
  unsigned-plain h = rw (le-ltb (span 69 u) (length u) (omega arith))

-- a text without its sign has at most a byte less
unsigned_length : (s : List ℕ) → length s ≤ suc (length (unsigned s))
unfolding unsigned
unsigned_length [] = omega arith
unsigned_length (b ∷ bs) =
    split (eqb b minus) (λ e. rw e (omega arith))
    (λ e. rw e (split (eqb b plus) (λ f. rw f (omega arith)) (λ f. rw f (omega arith))))

-- no mantissa is longer than its digits and a point
long_mantissa : (m : List ℕ) → 17 ≤ length m → is_mantissa m ≡ false
unfolding is_mantissa
long_mantissa m h =
    let e = span point m in
    let long : digit_limit < length (digits m) =
    omega (
      arith,
      length-append (before point m) (after point m),
      length-take-le e m (span_le point m),
      length-drop (suc e) m,
    ) in
    rw (lt-leb (length (digits m)) digit_limit long, and-false)

-- no power is longer than a sign and two digits
long_exponent : (x : List ℕ) → 4 ≤ length x → is_exponent x ≡ false
unfolding is_exponent
long_exponent x h = rw (lt-leb (length (unsigned x)) 2 (omega (arith, unsigned_length x)), and-false)

-- no number is longer than a sign, a mantissa, "E" and a power
pub long_number : (s : List ℕ) → 22 ≤ length s → is_number s ≡ false
unfolding is_number
long_number s h =
    let u = unsigned s in
    let e = span letter_e u in
    let size = unsigned_length s in
    split (ltb e 17)
    (λ p.
    let near = ltb-true e 17 p in
    rw (
      lt-ltb e (length u) (omega arith),
      long_exponent (after letter_e u) (omega (arith, length-drop (suc e) u)),
    ))
    (λ p.
    let far = ltb-false e 17 p in
    rw (long_mantissa (before letter_e u) (omega (arith, length-take-le e u (span_le letter_e u))), and-false))

-- the whole text: what is read of it is what the definition says
pub read_is : (decimals : ℕ) (s : List ℕ) → unsigned_of (begins minus s) (unsigned s) decimals ≡ read_of decimals s
unfolding unsigned_of with_exponent mantissa_of digits_of exponent_of read_of is_number is_mantissa exact_of begins unsigned decimal_after
read_is decimals s =
    let u = unsigned s in
    split (has_exponent u) (λ p. split (is_exponent (after letter_e u)) (λ q. rw (p, q)) (λ q. rw (p, q)))
    (λ p. let l : span letter_e u ≡ length u =
    omega (arith, span_le letter_e u, ltb-false (span letter_e u) (length u) p) in
    rw (p, l, take-length u, add-zero decimals))
