-- The bytes of a command's text: what divides it, and what is dropped of it. Assumes nothing.
use Prim.Native.Nat.{ℕ, zero, suc, ◌+◌, ◌/◌, ◌%◌, ◌^◌, ◌≤◌}
use mathlib.Core.Path.{◌≡◌, refl, sym, ap, ◌∙◌}
use mathlib.Core.Bool.{Bool, true, false, true≢false, cond, not, ◌&&◌, and-eq-true_iff}
use mathlib.Core.List.{List, [], ◌∷◌, ◌++◌}
use native.Mathlib.Omega.{arith}
use lib.Dec.{leb, ltb, eqb}
use lib.ListN.{length, length-append}
use borrow.Author.Tests.{le-leb, leb-true, lt-ltb, eq-eqb, ne_eqb}
use Rattle.laws.proofs.Lists.{all, all_append, all_wider}
use Rattle.split.specs.Divide.{parts, on_head}
use Rattle.line_text.specs.Clean.{cleaned}
use Rattle.number.specs.Number.{minus, point, begins}
use Rattle.format.specs.Text.{padded, digit_count, plain, fixed, sign, distance, signed_text}
use Rattle.format.proofs.Digits.{padded-length, places_some}
use Rattle.command.specs.Arguments.{comma, arguments}

-- from low to high
abbrev between : ℕ → ℕ → ℕ → Bool
between low high b = leb low b && leb b high

-- the bytes of a number's text lie from "-" to "9"
abbrev pub in_number : ℕ → Bool
in_number b = between 45 57 b

-- those of arguments from "," to "9"
abbrev pub in_arguments : ℕ → Bool
in_arguments b = between 44 57 b

-- those of a command from "*" to "Z", without ";"
abbrev pub in_command : ℕ → Bool
in_command b = between 42 90 b && not (eqb b 59)

record Between (low high b : ℕ) : Type 0 where
  least : low ≤ b
  most : b ≤ high

is_between : (low high b : ℕ) → between low high b ≡ true → Between low high b
is_between low high b h =
    let both = (and-eq-true_iff (leb low b) (leb b high)).0 h in
    record { least = leb-true low b both.0; most = leb-true b high both.1 }

number_argument : (b : ℕ) → in_number b ≡ true → in_arguments b ≡ true
number_argument b h = let i = is_between 45 57 b h in rw (le-leb 44 b (omega arith), le-leb b 57 (omega arith))

argument_command : (b : ℕ) → in_arguments b ≡ true → in_command b ≡ true
argument_command b h =
    let i = is_between 44 57 b h in
    rw (le-leb 42 b (omega arith), le-leb b 90 (omega arith), ne_eqb b 59 (λ e. omega arith))

pub in_arguments_lem : (xs : List ℕ) → all in_number xs ≡ true → all in_arguments xs ≡ true
in_arguments_lem = all_wider in_number in_arguments number_argument

pub in_command_lem : (xs : List ℕ) → all in_arguments xs ≡ true → all in_command xs ≡ true
in_command_lem = all_wider in_arguments in_command argument_command

-- a separator that the test refuses divides nothing
module _ (p : ℕ → Bool) (sep : ℕ) (refused : p sep ≡ false) where
  apart : (b : ℕ) → p b ≡ true → eqb b sep ≡ false
  apart b h = ne_eqb b sep (λ e. true≢false (sym h ∙ ap p e ∙ refused))

  pub parts_free : (xs : List ℕ) → all p xs ≡ true → parts sep xs ≡ xs ∷ []
  unfolding parts on_head
  parts_free [] h = refl
  parts_free (x ∷ xs) h =
      let both = (and-eq-true_iff (p x) (all p xs)).0 h in rw (apart x both.0, parts_free xs both.1)

  pub parts-joined : (xs ys : List ℕ) → all p xs ≡ true → parts sep (xs ++ sep ∷ ys) ≡ xs ∷ parts sep ys
  unfolding parts on_head
  parts-joined [] ys h = rw (eq-eqb sep sep refl)
  parts-joined (x ∷ xs) ys h =
      let both = (and-eq-true_iff (p x) (all p xs)).0 h in rw (apart x both.0, parts-joined xs ys both.1)

  pub begins-other : (xs : List ℕ) → all p xs ≡ true → begins sep xs ≡ false
  unfolding begins
  begins-other [] h = refl
  begins-other (x ∷ xs) h = apart x ((and-eq-true_iff (p x) (all p xs)).0 h).0

-- a command's bytes are kept as they are
pub cleaned-same : (xs : List ℕ) → all in_command xs ≡ true → cleaned xs ≡ xs
unfolding cleaned
cleaned-same [] h = refl
cleaned-same (x ∷ xs) h =
    let both = (and-eq-true_iff (in_command x) (all in_command xs)).0 h in
    let i = is_between 42 90 x ((and-eq-true_iff (between 42 90 x) (not (eqb x 59))).0 both.0).0 in
    rw (
      ne_eqb x 32 (λ e. omega arith),
      ne_eqb x 13 (λ e. omega arith),
      lt-ltb x 97 (omega arith),
      cleaned-same xs both.1,
    )

pub arguments_some : (s : List ℕ) → 1 ≤ length s → arguments s ≡ parts comma s
unfolding arguments
arguments_some [] h = absurd (omega arith)
arguments_some (b ∷ bs) h = refl

-- what is written of a number
padded-bytes : (k n : ℕ) → all in_number (padded k n) ≡ true
unfolding padded
padded-bytes zero n = refl
padded-bytes (suc k) n =
    let d = 48 + n / 10 ^ k % 10 in
    rw (le-leb 45 d (omega arith), le-leb d 57 (omega arith), padded-bytes k n)

pub plain-bytes : (n : ℕ) → all in_number (plain n) ≡ true
unfolding plain
plain-bytes n = padded-bytes (digit_count n) n

pub plain_some : (n : ℕ) → 1 ≤ length (plain n)
unfolding plain
plain_some n = rw padded-length (places_some n)

pub signed-bytes : (d bias v : ℕ) → all in_number (signed_text d bias v) ≡ true
unfolding signed_text sign fixed
signed-bytes d bias v =
    all_append in_number (sign bias v) (fixed d (distance bias v)) (front (ltb v bias))
    (all_append in_number (plain (distance bias v / 10 ^ d)) _ (plain-bytes (distance bias v / 10 ^ d)) (back (eqb d 0)))
  where
    front : (t : Bool) → all in_number (cond t (minus ∷ []) []) ≡ true
    front true = refl
    front false = refl

    back : (t : Bool) → all in_number (cond t [] (point ∷ padded d (distance bias v))) ≡ true
    back true = refl
    back false = padded-bytes d (distance bias v)

pub signed_some : (d bias v : ℕ) → 1 ≤ length (signed_text d bias v)
unfolding signed_text fixed
signed_some d bias v = rw (length-append, length-append) (omega (arith, plain_some (distance bias v / 10 ^ d)))
