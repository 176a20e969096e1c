-- A number's text has no comma. Assumes nothing.
use Prim.Native.Nat.{ℕ, suc, ◌<◌}
use mathlib.Core.Path.{◌≡◌, refl}
use mathlib.Core.Bool.{true, false, not, ◌&&◌, ◌||◌}
use mathlib.Core.List.{List, [], ◌∷◌, ◌++◌}
use native.Mathlib.Omega.{arith}
use lib.Dec.{leb, eqb}
use lib.ListN.{length, drop_of_length-le}
use borrow.Author.Tests.{ne_eqb, eqb-true, ltb-false, leb-true}
use Rattle.laws.proofs.Tests.{split, and_first, and_second}
use Rattle.split.specs.Divide.{span, before, after}
use Rattle.number.specs.Number.{is_digit, all_digits, unsigned, point, letter_e, digits, digit_limit}
use Rattle.number.specs.Number.{is_mantissa, is_exponent, has_exponent, is_number}
use Rattle.command.specs.Arguments.{comma}

-- a text without a comma
abbrev Whole : List ℕ → Type 0
Whole s = span comma s ≡ length s

digits_whole : (s : List ℕ) → all_digits s ≡ true → Whole s
unfolding all_digits span
digits_whole [] h = refl
digits_whole (b ∷ bs) h =
    let digit = and_first (is_digit b) (all_digits bs) h in
    let least = leb-true 48 b (and_first (leb 48 b) (leb b 57) digit) in
    rw (ne_eqb b comma (λ e. omega arith), digits_whole bs (and_second (is_digit b) (all_digits bs) h))

digits_both : (a b : List ℕ) → all_digits (a ++ b) ≡ true → (all_digits a ≡ true) × (all_digits b ≡ true)
unfolding all_digits
digits_both [] b h = (refl, h)
digits_both (x ∷ a) b h =
    let rest = digits_both a b (and_second (is_digit x) (all_digits (a ++ b)) h) in
    (rw (and_first (is_digit x) (all_digits (a ++ b)) h, rest.0), rest.1)

-- a text is whole if what stands before and after another separator is
joined_whole : (sep : ℕ) → (sep ≡ comma → ⊥) → (s : List ℕ) → Whole (before sep s) → Whole (after sep s) → Whole s
unfolding span
joined_whole sep other [] f g = refl
joined_whole sep other (b ∷ bs) f g = split (eqb b sep)
    (λ e. let same = eqb-true b sep e in let rest = rw e at g in rw (ne_eqb b comma (λ z. other (cc)), rest))
    (λ e. let front = rw e at f in let back = rw e at g in
    split (eqb b comma) (λ z. let none = rw z at front in absurd (omega arith))
    (λ z. let some = rw z at front in rw (z, joined_whole sep other bs (omega arith) back)))

unsigned_whole : (s : List ℕ) → Whole (unsigned s) → Whole s
unfolding unsigned span
unsigned_whole [] h = refl
unsigned_whole (b ∷ bs) h = split (eqb b 45)
    (λ e. let sign = eqb-true b 45 e in let rest = rw e at h in rw (ne_eqb b comma (λ z. omega arith), rest))
    (λ e. let other = rw e at h in split (eqb b 43)
    (λ f. let sign = eqb-true b 43 f in let rest = rw f at other in rw (ne_eqb b comma (λ z. omega arith), rest))
    (λ f. rw f at other))

mantissa_whole : (m : List ℕ) → is_mantissa m ≡ true → Whole m
unfolding is_mantissa
mantissa_whole m h =
    let d = digits m in
    let count = and_second (leb 1 (length d)) (leb (length d) digit_limit && all_digits d) h in
    let all = and_second (leb (length d) digit_limit) (all_digits d) count in
    let both = digits_both (before point m) (after point m) all in
    joined_whole point (λ e. omega arith) m (digits_whole _ both.0) (digits_whole _ both.1)

exponent_whole : (x : List ℕ) → is_exponent x ≡ true → Whole x
unfolding is_exponent
exponent_whole x h =
    let u = unsigned x in
    let count = and_second (leb 1 (length u)) (leb (length u) 2 && all_digits u) h in
    unsigned_whole x (digits_whole u (and_second (leb (length u) 2) (all_digits u) count))

pub number_whole : (s : List ℕ) → is_number s ≡ true → Whole s
unfolding is_number span
number_whole s h =
    let u = unsigned s in
    let power = not (has_exponent u) || is_exponent (after letter_e u) in
    let first = and_first power (is_mantissa (before letter_e u)) h in
    let front = mantissa_whole (before letter_e u) (and_second power (is_mantissa (before letter_e u)) h) in
    unsigned_whole s (split (has_exponent u)
    (λ e. let x = rw e at first in
    joined_whole letter_e (λ z. omega arith) u front (exponent_whole (after letter_e u) x))
    (λ e. let l = ltb-false (span letter_e u) (length u) e in
    joined_whole letter_e (λ z. omega arith) u front
    (rw (drop_of_length-le u {i = suc (span letter_e u)} (omega arith)))))

-- so a text with a comma is no number
pub no_number : (s : List ℕ) → span comma s < length s → is_number s ≡ false
no_number s h = split (is_number s) (λ e. let w = number_whole s e in absurd (omega arith)) (λ e. e)
