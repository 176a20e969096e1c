-- What reading makes of written digits. Assumes nothing.
use Prim.Native.Nat.{ℕ, zero, suc, ◌+◌, ◌-◌, ◌*◌, ◌/◌, ◌%◌, ◌^◌, ◌<◌}
use mathlib.Core.Bool.{true, false}
use mathlib.Core.Path.{◌≡◌, refl, sym, ap, ◌∙◌}
use mathlib.Core.List.{List, [], ◌++◌, append-nil}
use native.Mathlib.Omega.{arith}
use native.Mathlib.Nat.{pow-succ', one-le-pow, mod-one, mod-eq_of_lt, add-mul, mul_assoc, add_assoc, div-add-mod'}
use borrow.Author.Tests.{ne_eqb, le-leb}
use lib.Arith.{mod-mul}
use Rattle.split.specs.Divide.{span}
use Rattle.number.specs.Number.{plus, minus, begins, unsigned, all_digits}
use Rattle.number.specs.Value.{decimal_after, decimal}
use Rattle.format.specs.Text.{padded, digit_count, plain}
use Rattle.format.proofs.Digits.{padded-first, places_hold}

-- no separator but a digit divides them
pub span-padded : (sep : ℕ) → ((m : ℕ) → 48 + m % 10 ≡ sep → ⊥) → (k n : ℕ) (ys : List ℕ) →
    span sep (padded k n ++ ys) ≡ k + span sep ys
unfolding padded span
span-padded sep f zero n ys = omega arith
span-padded sep f (suc k) n ys =
    rw (ne_eqb (48 + n / 10 ^ k % 10) sep (f (n / 10 ^ k))) (omega (arith, span-padded sep f k n ys))

pub span_all : (sep : ℕ) → ((m : ℕ) → 48 + m % 10 ≡ sep → ⊥) → (k n : ℕ) → span sep (padded k n) ≡ k
unfolding span
span_all sep f k n =
    let e : k + 0 ≡ k = omega arith in
    ap (span sep) (sym (append-nil (padded k n))) ∙ span-padded sep f k n [] ∙ e

-- all of them are digits
pub digits-padded : (k n : ℕ) (ys : List ℕ) → all_digits (padded k n ++ ys) ≡ all_digits ys
unfolding padded all_digits
digits-padded zero n ys = refl
digits-padded (suc k) n ys =
    rw (le-leb 48 (48 + n / 10 ^ k % 10) (omega arith), le-leb (48 + n / 10 ^ k % 10) 57 (omega arith)) (digits-padded k n ys)

pub digits_all : (k n : ℕ) → all_digits (padded k n) ≡ true
unfolding all_digits
digits_all k n = ap all_digits (sym (append-nil (padded k n))) ∙ digits-padded k n []

-- the first of them is no sign
pub unsigned-padded : (k n : ℕ) (ys : List ℕ) → 0 < k → unsigned (padded k n ++ ys) ≡ padded k n ++ ys
unfolding unsigned
unsigned-padded k n ys h =
    let x = 48 + n / 10 ^ (k - 1) % 10 in
    rw (padded-first k n h, ne_eqb x minus (λ e. omega arith), ne_eqb x plus (λ e. omega arith))

pub begins-padded : (k n : ℕ) (ys : List ℕ) → 0 < k → begins minus (padded k n ++ ys) ≡ false
unfolding begins
begins-padded k n ys h = rw (padded-first k n h) (ne_eqb (48 + n / 10 ^ (k - 1) % 10) minus (λ e. omega arith))

-- read behind a number v, they are the last digits of the number read
shifted : (v x p r : ℕ) → (v * 10 + (48 + x - 48)) * p + r ≡ v * (10 * p) + (x * p + r)
shifted v x p r =
    let e : 48 + x - 48 ≡ x = omega arith in
    rw (e, add-mul, mul_assoc, add_assoc)

pub decimal-padded : (k v n : ℕ) (ds : List ℕ) →
    decimal_after v (padded k n ++ ds) ≡ decimal_after (v * 10 ^ k + n % 10 ^ k) ds
unfolding padded decimal_after
decimal-padded zero v n ds =
    let e : v ≡ v * 1 + n % 1 = omega (arith, mod-one n) in
    ap (λ x. decimal_after x ds) e
decimal-padded (suc k) v n ds =
    decimal-padded k (v * 10 + (48 + n / 10 ^ k % 10 - 48)) n ds
    ∙ rw (shifted v (n / 10 ^ k % 10) (10 ^ k) (n % 10 ^ k), pow-succ', mod-mul n {m = 10} {c = 10 ^ k} (omega arith) (one-le-pow k 10 (omega arith)))

-- the digits of a whole part and then the decimals are the number
pub decimal-whole : (d n : ℕ) → decimal (plain (n / 10 ^ d) ++ padded d n) ≡ n
unfolding plain decimal_after
decimal-whole d n =
    let w = n / 10 ^ d in
    let e : 0 * 10 ^ digit_count w + w % 10 ^ digit_count w ≡ w = omega (arith, mod-eq_of_lt (places_hold w)) in
    decimal-padded (digit_count w) 0 w (padded d n)
    ∙ ap (λ x. decimal_after x (padded d n)) e
    ∙ ap (decimal_after w) (sym (append-nil (padded d n)))
    ∙ decimal-padded d w n []
    ∙ div-add-mod' n (10 ^ d)
