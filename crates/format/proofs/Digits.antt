-- The digits of a number: how many there are, and one at a time. Assumes nothing.
use Prim.Native.Nat.{ℕ, zero, suc, ◌+◌, ◌-◌, ◌*◌, ◌/◌, ◌%◌, ◌^◌, ◌≤◌, ◌<◌, max}
use mathlib.Core.Path.{◌≡◌, refl, sym, ap}
use mathlib.Core.List.{List, [], ◌∷◌}
use native.Mathlib.Omega.{arith}
use native.Mathlib.Nat.{pow-suc, one-le-pow, pow-le-pow_right, div-div-eq-div-mul, div-lt_iff_lt-mul}
use native.Mathlib.Numerals.{add-one}
use borrow.Author.Tests.{ltb-true, ltb-false, le-ltb, lt-ltb}
use lib.Dec.{ltb}
use lib.Pow.{pow-add}
use lib.ListN.{length}
use Rattle.laws.proofs.Tests.{split, cond_by}
use Rattle.format.specs.Text.{padded, digit_count_in, digit_count}
use Rattle.format.specs.Parts.{appended}
use Rattle.format.proofs.Appended.{added_join}

pub padded-empty : (n : ℕ) → padded 0 n ≡ []
unfolding padded
padded-empty n = refl

pub padded-first : (k n : ℕ) → 0 < k → padded k n ≡ (48 + n / 10 ^ (k - 1) % 10) ∷ padded (k - 1) n
unfolding padded
padded-first k n h =
    let e : k ≡ suc (k - 1) = omega arith in
    ap (λ m. padded m n) e

-- a digit written, then the ones after it
pub padded_added : (xs ys : List ℕ) (k n : ℕ) → 0 < k → ys ≡ appended xs ((48 + n / 10 ^ (k - 1) % 10) ∷ []) →
    appended xs (padded k n) ≡ appended ys (padded (k - 1) n)
padded_added xs ys k n h e = rw (padded-first k n h, e) (sym (added_join xs _ _))

pub padded-length : (k n : ℕ) → length (padded k n) ≡ k
unfolding padded
padded-length zero n = refl
padded-length (suc k) n = ap suc (padded-length k n)

-- any number of steps from n on gives the same count
enough : (m k n : ℕ) → n ≤ m → n ≤ k → digit_count_in m n ≡ digit_count_in k n
unfolding digit_count_in
enough zero zero n h l = refl
enough zero (suc k) n h l = rw (lt-ltb n 10 (omega arith))
enough (suc m) zero n h l = rw (lt-ltb n 10 (omega arith))
enough (suc m) (suc k) n h l = rw (enough m k (n / 10) (omega arith) (omega arith))

pub places_one : (n : ℕ) → n < 10 → digit_count n ≡ 1
unfolding digit_count_in
places_one zero h = refl
places_one (suc n) h = rw (lt-ltb (suc n) 10 h)

pub places_more : (n : ℕ) → 10 ≤ n → digit_count n ≡ suc (digit_count (n / 10))
unfolding digit_count_in
places_more zero h = absurd (omega arith)
places_more (suc n) h =
    rw (le-ltb (suc n) 10 h) (ap suc (enough n (suc n / 10) (suc n / 10) (omega arith) (omega arith)))

-- the count is the least: n is below that power of ten, and below no smaller one but where n is 0
hold_in : (m n : ℕ) → n ≤ m → n < 10 ^ digit_count_in m n
unfolding digit_count_in
hold_in zero n h = omega arith
hold_in (suc m) n h =
    let below = hold_in m (n / 10) (omega arith) in
    split (ltb n 10) (λ e. let l = ltb-true n 10 e in rw e (omega arith)) (λ e. rw (e, pow-suc) (omega arith))

least_in : (m n k : ℕ) → 0 < k → n < 10 ^ k → digit_count_in m n ≤ k
unfolding digit_count_in
least_in m n zero l h = absurd (omega arith)
least_in zero n (suc k) l h = omega arith
least_in (suc m) n (suc zero) l h = rw (lt-ltb n 10 (omega arith)) (omega arith)
least_in (suc m) n (suc (suc k)) l h =
    let fewer = least_in m (n / 10) (suc k) (omega arith) (omega (arith, pow-suc 10 (suc k))) in
    cond_by (λ p. p ≤ suc (suc k)) (ltb n 10) (λ e. omega arith) (λ e. omega arith)

pub places_hold : (n : ℕ) → n < 10 ^ digit_count n
places_hold n = hold_in n n (omega arith)

pub places_some : (n : ℕ) → 0 < digit_count n
unfolding digit_count_in
places_some zero = omega arith
places_some (suc n) = cond_by (λ k. 0 < k) (ltb (suc n) 10) (λ e. omega arith) (λ e. omega arith)

pub places_least : (n k : ℕ) → 0 < k → n < 10 ^ k → digit_count n ≤ k
places_least n k l h = least_in n n k l h

-- the count by a power of ten that is not above the number, or is 1 for the number 0, and the next one, which is above
pub places_by_power : (n m k : ℕ) → m ≡ max n 1 → 10 ^ k ≤ m → m < 10 * 10 ^ k → k + 1 ≡ digit_count n
places_by_power n m k e l h =
    let most = places_least n (k + 1) (omega arith) (rw (add-one, pow-suc) (omega arith)) in
    split (ltb k (digit_count n)) (λ p. omega (arith, ltb-true k (digit_count n) p))
    (λ p. let below : 10 ^ digit_count n ≤ 10 ^ k = pow-le-pow_right {n = 10} (omega arith) (ltb-false k (digit_count n) p) in
    let ten : 10 ^ 1 ≤ 10 ^ digit_count n = pow-le-pow_right {n = 10} (omega arith) (places_some n) in
    absurd (omega (arith, places_hold n)))

-- a whole part and its decimals have no more digits than the number, but that the whole part has one at least
pub places_whole : (k d n : ℕ) → d < k → n < 10 ^ k → digit_count (n / 10 ^ d) + d ≤ k
places_whole k d n l h =
    let e : k ≡ (k - d) + d = omega arith in
    let f : n < 10 ^ (k - d) * 10 ^ d = rw (← pow-add 10 (k - d) d, ← e) h in
    omega (arith, places_least (n / 10 ^ d) (k - d) (omega arith) ((div-lt_iff_lt-mul (one-le-pow d 10 (omega arith))).1 f))

-- one digit fewer
pub tenth : (n x i : ℕ) → x ≡ n / 10 ^ i → x / 10 ≡ n / 10 ^ (i + 1)
tenth n x i e = rw (e, add-one, pow-suc) (div-div-eq-div-mul n (10 ^ i) 10)
