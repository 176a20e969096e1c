-- Taking is exact: what is kept of a number is enough for every range and every step. Assumes nothing.
use Prim.Native.Nat.{ℕ, zero, suc, ◌+◌, ◌-◌, ◌*◌, ◌/◌, ◌%◌, ◌<◌, ◌≤◌}
use mathlib.Core.Path.{◌≡◌, sym, ◌∙◌}
use mathlib.Core.Bool.{Bool, true, false, cond, and-false}
use native.Mathlib.Omega.{arith}
use native.Mathlib.Nat.{one-le-pow, mod-lt, div-add-mod', mul-zero, mul_comm, mul_assoc, add-mul, one-mul, mul-le-mul_right, lt_of_mul-lt-mul_right, div-div-eq-div-mul, min-eq_left, min-eq_right}
use lib.Dec.{leb, ltb, eqb}
use lib.Arith.{mod-mul}
use borrow.Author.Tests.{lt-leb, le-leb, leb-true, leb-false, le-ltb, ltb-true, ltb-false, eqb-true, eqb-false}
use Rattle.std.specs.Prelude.{Some}
use Rattle.laws.proofs.Tests.{split, cond_by, and_second}
use Rattle.number.specs.Value.{Exact, exact_of, in_range, rounded, is_whole, argument_of}
use Rattle.number.specs.Parts.{cap, quantity_of, fits_range, rounded_to, placed_in, value_in, taken_of}
use Rattle.number.specs.Exact.{Small, TakenExact, UnderSome}
use Rattle.number.proofs.Rounding as Rounding
use Rattle.number.specs.declared.Range.{Range}
use Rattle.number.specs.declared.Quantity.{Quantity}

one_at_most : (e : Bool) → cond e 1 0 ≤ 1
one_at_most e = cond_by (λ n. n ≤ 1) e (λ _. omega arith) (λ _. omega arith)

-- two tests that hold of the same numbers
pub same_test : (a b c d : ℕ) → (a ≤ b → c ≤ d) → (c ≤ d → a ≤ b) → leb a b ≡ leb c d
same_test a b c d f g =
    split (leb c d) (λ q. rw q (le-leb a b (g (leb-true c d q))))
    (λ q. rw q (split (leb a b) (λ p. absurd (omega (arith, f (leb-true a b p), leb-false c d q))) (λ p. p)))

-- a + x / d ≤ b and b ≤ a + x / d, for a part x / d below one
module _ (a b d x : ℕ) (h : x < d) where
  part_above : leb (b * d) (a * d + x) ≡ leb b a
  part_above =
      same_test (b * d) (a * d + x) b a
      (λ p. let l : b * d < (a + 1) * d = rw (add-mul a 1 d, one-mul d) (omega arith) in omega (arith, lt_of_mul-lt-mul_right d l))
      (λ p. omega (arith, mul-le-mul_right d p))

  part_below : leb (a * d + x) (b * d) ≡ leb (a + 1) (b + cond (eqb x 0) 1 0)
  part_below =
      cond_by (λ n. leb (a * d + x) (b * d) ≡ leb (a + 1) (b + n)) (eqb x 0)
      (λ z. let o : x ≡ 0 = eqb-true x 0 z in
      same_test (a * d + x) (b * d) (a + 1) (b + 1)
      (λ p. let l : a * d < (b + 1) * d = rw (add-mul b 1 d, one-mul d) (omega arith) in
      omega (arith, lt_of_mul-lt-mul_right d l))
      (λ p. let l : a ≤ b = omega arith in omega (arith, mul-le-mul_right d l)))
      (λ z. let o : 0 < x = omega (arith, eqb-false x 0 z) in
      same_test (a * d + x) (b * d) (a + 1) (b + 0)
      (λ p. let l : a * d < b * d = omega arith in omega (arith, lt_of_mul-lt-mul_right d l))
      (λ p. let l : a + 1 ≤ b = omega arith in omega (arith, mul-le-mul_right d l, add-mul a 1 d, one-mul d)))

  twice : (k : ℕ) → (2 * a + k) * d ≡ 2 * (a * d) + k * d
  twice k = add-mul (2 * a) k d ∙ rw (mul_assoc 2 a d)

  part_half : leb (b * d) (2 * (a * d + x)) ≡ leb b (2 * a + cond (leb d (2 * x)) 1 0)
  part_half =
      cond_by (λ n. leb (b * d) (2 * (a * d + x)) ≡ leb b (2 * a + n)) (leb d (2 * x))
      (λ z. let o : d ≤ 2 * x = leb-true d (2 * x) z in
      same_test (b * d) (2 * (a * d + x)) b (2 * a + 1)
      (λ p. let l : b * d < (2 * a + 2) * d = omega (arith, twice 2) in omega (arith, lt_of_mul-lt-mul_right d l))
      (λ p. omega (arith, twice 1, mul-le-mul_right d p)))
      (λ z. let o : 2 * x < d = leb-false d (2 * x) z in
      same_test (b * d) (2 * (a * d + x)) b (2 * a + 0)
      (λ p. let l : b * d < (2 * a + 1) * d = omega (arith, twice 1) in omega (arith, lt_of_mul-lt-mul_right d l))
      (λ p. omega (arith, twice 0, mul-le-mul_right d p)))

-- a number as it is kept, with no cap
abbrev kept : Exact → Quantity
kept v = record { negative = v.negative; whole = v.over / v.under; half = leb v.under (2 * (v.over % v.under)); exact = is_whole v }

module _ (v : Exact) (pos : 0 < v.under) where
  rest : v.over % v.under < v.under
  rest = mod-lt v.over pos

  -- the value above n whole units
  sum : (n : ℕ) → n * v.under + v.over ≡ (n + v.over / v.under) * v.under + v.over % v.under
  sum n = omega (arith, div-add-mod' v.over v.under, add-mul n (v.over / v.under) v.under)

  in_range_lem : (r : Range) → in_range r v ≡ fits_range r (kept v)
  unfolding in_range fits_range
  in_range_lem r =
      let n = v.over / v.under in
      split v.negative
      (λ e. rw (
        e,
        sum r.low,
        sum r.high,
        part_below (r.low + n) r.bias v.under (v.over % v.under) rest,
        part_above (r.high + n) r.bias v.under (v.over % v.under) rest,
      ))
      (λ e. rw (
        e,
        sum r.bias,
        part_above (r.bias + n) r.low v.under (v.over % v.under) rest,
        part_below (r.bias + n) r.high v.under (v.over % v.under) rest,
      ))

  rounds : (step : ℕ) → rounded step v ≡ rounded_to step (kept v)
  unfolding rounded_to
  rounds zero = mul-zero _ ∙ sym (mul-zero _)
  rounds (suc k) =
      rw (
        ← div-div-eq-div-mul v.over v.under (suc k),
        mul_comm v.under (suc k),
        mod-mul v.over {m = suc k} {c = v.under} (omega arith) pos,
        part_half (v.over / v.under % suc k) (suc k) v.under (v.over % v.under) rest,
      )

  placed_is : (r : Range) → cond v.negative (r.bias - rounded r.step v) (r.bias + rounded r.step v) ≡ placed_in r (kept v)
  unfolding placed_in
  placed_is r = rw (rounds r.step)

  -- a whole part past the cap lies in no range
  past : (r : Range) → Small r → cap ≤ v.over / v.under → fits_range r (kept v) ≡ false
  unfolding fits_range
  past r small h =
      let n = v.over / v.under in
      let one = one_at_most (is_whole v) in
      split v.negative (λ e. rw (e, lt-leb (r.low + n + 1) (r.bias + cond (is_whole v) 1 0) (omega arith)))
      (λ e. rw (e, lt-leb (r.bias + n + 1) (r.high + cond (is_whole v) 1 0) (omega arith), and-false))

  rounded_le : (step : ℕ) → rounded_to step (kept v) ≤ v.over / v.under + step
  unfolding rounded_to
  rounded_le step =
      Rounding.rounded_le (v.over / v.under) step (leb step (2 * (v.over / v.under % step) + cond (kept v).half 1 0))

  -- a value in a small range fits
  fits_small : (r : Range) → Small r → fits_range r (kept v) ≡ true → placed_in r (kept v) ≤ 4294967295
  unfolding placed_in fits_range
  fits_small r small p =
      let n = v.over / v.under in
      cond_by (λ k. k ≤ 4294967295) v.negative (λ e. omega arith)
      (λ e. let both = rw e at p in
      let l = leb-true (r.bias + n + 1) (r.high + cond (is_whole v) 1 0) (and_second (leb r.low _) _ both) in
      omega (arith, one_at_most (is_whole v), rounded_le r.step))

  value_small : (r : Range) → Small r → fits_range r (kept v) ≡ true → value_in r (kept v) ≡ Some (placed_in r (kept v))
  unfolding value_in
  value_small r small e = rw (le-ltb 4294967295 (placed_in r (kept v)) (fits_small r small e))

  takes : (r : Range) → Small r → taken_of r (quantity_of v) ≡ argument_of r v
  unfolding taken_of argument_of
  takes r small =
      split (ltb (v.over / v.under) cap)
      (λ p. let l : v.over / v.under ≤ cap = omega (arith, ltb-true (v.over / v.under) cap p) in
      rw (min-eq_right l, p, in_range_lem r, placed_is r)
      (split (fits_range r (kept v)) (λ f. rw (value_small r small f)) (λ f. rw f)))
      (λ p. let l : cap ≤ v.over / v.under = ltb-false (v.over / v.under) cap p in
      rw (min-eq_left l, in_range_lem r, past r small l))

-- taking what is kept of a number is taking the number
pub taken_exact : TakenExact
taken_exact v pos = takes v pos

-- a text's exact value divides by a power of ten, which is not 0
pub under_pos : UnderSome
unfolding exact_of
under_pos decimals s = one-le-pow _ 10 (omega arith)
