-- One digit after the other: the tests over a run of digits, step by step. Assumes nothing.
use Prim.Native.Nat.{ℕ, ◌+◌, ◌*◌, ◌<◌, ◌≤◌, min}
use mathlib.Core.Path.{◌≡◌, refl, sym, ap, ◌∙◌}
use mathlib.Core.Bool.{true, false, ◌&&◌, and-false, and_assoc}
use mathlib.Core.List.{List, [], ◌∷◌, ◌++◌}
use native.Mathlib.Omega.{arith}
use native.Mathlib.Numerals.{add-one}
use native.Mathlib.Nat.{zero-add}
use lib.ListN.{length, get_or}
use lib.Dec.{eqb}
use Rattle.std.specs.List.{list_all}
use Rattle.split.proofs.Span.{within}
use Rattle.number.specs.Number.{all_digits, is_digit, digit_zero}
use Rattle.number.specs.Parts.{cap}
use Rattle.number.specs.TextParts.{digit, digits_value, all_zero}
use Rattle.number.proofs.Places.{digit_range}

-- a test of every byte
pub digits_all : (s : List ℕ) → list_all is_digit s ≡ all_digits s
unfolding all_digits
digits_all [] = refl
digits_all (b ∷ s) = ap (λ t. is_digit b && t) (digits_all s)

pub zeros_all : (s : List ℕ) → list_all (λ b. eqb b digit_zero) s ≡ all_zero s
unfolding all_zero
zeros_all [] = refl
zeros_all (b ∷ s) = ap (λ t. eqb b digit_zero && t) (zeros_all s)

pub digits_append : (xs ys : List ℕ) → all_digits (xs ++ ys) ≡ (all_digits xs && all_digits ys)
unfolding all_digits
digits_append [] ys = refl
digits_append (x ∷ xs) ys = rw (digits_append xs ys) (sym (and_assoc (is_digit x) (all_digits xs) (all_digits ys)))

pub digits-both : (xs ys : List ℕ) → all_digits xs ≡ true → all_digits ys ≡ true → all_digits (xs ++ ys) ≡ true
digits-both xs ys e f = digits_append xs ys ∙ rw (e, f)

pub digits-not-first : (xs ys : List ℕ) → all_digits xs ≡ false → all_digits (xs ++ ys) ≡ false
digits-not-first xs ys e = digits_append xs ys ∙ rw e

pub digits-not-second : (xs ys : List ℕ) → all_digits ys ≡ false → all_digits (xs ++ ys) ≡ false
digits-not-second xs ys e = digits_append xs ys ∙ rw e (and-false (all_digits xs))

-- one digit more, under the cap
pub grow : (ds : List ℕ) (n v d : ℕ) → v ≡ min cap (digits_value ds 0 n) → d ≡ digit ds n →
    min cap (v * 10 + d) ≡ min cap (digits_value ds 0 (n + 1))
unfolding digits_value
grow ds n v d e f = rw (add-one n, zero-add n, e, f) (omega arith)

-- a byte of a run of digits
pub digit_at_place : (s : List ℕ) (i : ℕ) → all_digits s ≡ true → i < length s → (48 ≤ get_or s i 0) × (get_or s i 0 ≤ 57)
digit_at_place s i all h = rw (within s 0 48 i h) (digit_range s all i)
