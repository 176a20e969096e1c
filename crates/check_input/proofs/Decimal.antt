-- The digits that `io::decimal` writes are those of a whole number written plain. Assumes nothing.
use Prim.Native.Nat.{ℕ, zero, suc, ◌+◌, ◌-◌, ◌/◌, ◌%◌, ◌^◌, ◌≤◌, ◌<◌}
use mathlib.Core.Bool.{Bool, true, false}
use mathlib.Core.Path.{◌≡◌, refl, sym, ap, ◌∙◌}
use mathlib.Core.List.{List, [], ◌∷◌, ◌++◌}
use native.Mathlib.Omega.{arith}
use native.Mathlib.Nat.{pow-succ', pow-le-pow_right, div-one, div-div-eq-div-mul}
use lib.Dec.{ltb}
use lib.ListN.{length, take}
use borrow.Author.Tests.{lt-ltb, ltb-true, ltb-false}
use Rattle.io.specs.Digits.{last_digits, IsDigitCount}
use Rattle.format.specs.Text.{padded, digit_count, plain}
use Rattle.format.proofs.Length.{plain-length}
use Rattle.format.proofs.Digits.{places_hold, places_least, places_some}

-- the last digit by itself
padded_last : (k n : ℕ) → padded (suc k) n ≡ padded k (n / 10) ++ ((48 + n % 10) ∷ [])
unfolding padded
padded_last zero n = rw (div-one n)
padded_last (suc k) n =
    let tenth : n / 10 ^ suc k ≡ n / 10 / 10 ^ k = rw pow-succ' (sym (div-div-eq-div-mul n 10 (10 ^ k))) in
    rw tenth (ap (λ l. (48 + n / 10 / 10 ^ k % 10) ∷ l) (padded_last k n))

digits-padded : (k n : ℕ) → last_digits 10 k n ≡ padded k n
unfolding padded
digits-padded zero n = refl
digits-padded (suc k) n =
    rw (digits-padded k (n / 10), lt-ltb (n % 10) 10 (omega arith)) (sym (padded_last k n))

-- the fewest digits are as many as the number has
fewest_places : (n k : ℕ) → IsDigitCount 10 1 n k → k ≡ digit_count n
fewest_places n k f = by (ltb (digit_count n) k) refl where
  by : (t : Bool) → ltb (digit_count n) k ≡ t → k ≡ digit_count n
  by true e =
      let l = ltb-true (digit_count n) k e in
      let low = f.2 (omega (arith, places_some n)) in
      let high : 10 ^ digit_count n ≤ 10 ^ (k - 1) = pow-le-pow_right (omega arith) (omega arith) in
      absurd (omega (arith, places_hold n))
  by false e =
      let l = ltb-false (digit_count n) k e in
      omega (arith, places_least n k (omega arith) f.1)

-- what is written: as many bytes as are reported
pub record Writes (n k : ℕ) (out : List ℕ) : Type 0 where
  pub shows : take k out ≡ plain n
  pub few : length (take k out) ≤ 20

pub decimal_writes : (n k : ℕ) (out : List ℕ) → n < 2 ^ 64 → IsDigitCount 10 1 n k → take k out ≡ last_digits 10 k n →
    Writes n k out
unfolding plain
decimal_writes n k out h f e =
    let shows : take k out ≡ plain n =
    e ∙ digits-padded k n ∙ ap (λ m. padded m n) (fewest_places n k f) in
    record { shows = shows; few = rw shows (plain-length 20 n (omega arith) (omega arith)) }
