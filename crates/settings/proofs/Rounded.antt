-- Rounding stays within a range whose ends lie on the step. Assumes nothing.
use Prim.Native.Nat.{ℕ, ◌+◌, ◌-◌, ◌*◌, ◌/◌, ◌%◌, ◌<◌, ◌≤◌}
use mathlib.Core.Path.{◌≡◌, refl, sym, ap, ◌∙◌}
use mathlib.Core.Logic.{◌⊎◌, inl, inr, ⊎_elim}
use mathlib.Core.Bool.{Bool, true, false, cond, not, ◌&&◌, ◌||◌}
use native.Mathlib.Omega.{arith}
use native.Mathlib.Nat.{mod-lt, div-add-mod', mul_comm, mul_assoc, add-mul, one-mul, mul-le-mul_right}
use native.Mathlib.Nat.{lt_of_mul-lt-mul_right, mul-lt-mul_of_pos_right, mul-pos, mul-mod_left}
use lib.Dec.{leb}
use borrow.Author.Tests.{leb-true}
use Rattle.number.specs.Value.{Exact, in_range, nearest, rounded, is_whole, argument_of}
use Rattle.number.specs.declared.Range.{Range}
use Rattle.std.specs.Prelude.{Some, None}
use Rattle.laws.proofs.Tests.{and_first, and_second}

-- whole bounds of b + a / d bound b and the number nearest to a / d
module _ (a d : ℕ) (pos : 0 < d) where
  -- the number nearest to a / d stays below a bound
  pub nearest_le : (b h : ℕ) → b * d + a ≤ h * d → b + nearest a d ≤ h
  nearest_le b h p = by (leb d (2 * (a % d))) refl where
    sum : (b + a / d) * d + a % d ≡ b * d + a
    sum = omega (arith, add-mul b (a / d) d, div-add-mod' a d)

    by : (t : Bool) → leb d (2 * (a % d)) ≡ t → b + (a / d + cond t 1 0) ≤ h
    by true e =
        let l : (b + a / d) * d < h * d = omega (arith, sum, leb-true d (2 * (a % d)) e) in
        omega (arith, lt_of_mul-lt-mul_right d l)
    by false e =
        let l : (b + a / d) * d < (h + 1) * d = omega (arith, sum, add-mul h 1 d, one-mul d) in
        omega (arith, lt_of_mul-lt-mul_right d l)

  -- and so from below
  pub nearest_ge : (b l : ℕ) → l * d ≤ b * d + a → l ≤ b + nearest a d
  nearest_ge b l p =
      let sum = add-mul (b + a / d) 1 d in
      let m : l * d < (b + a / d + 1) * d =
      omega (arith, sum, add-mul b (a / d) d, one-mul d, div-add-mod' a d, mod-lt a pos) in
      omega (arith, lt_of_mul-lt-mul_right d m)

-- two tests that hold together
both_le : (a b c d : ℕ) → (leb a b && leb c d) ≡ true → (a ≤ b) × (c ≤ d)
both_le a b c d p = (leb-true a b (and_first (leb a b) (leb c d) p), leb-true c d (and_second (leb a b) (leb c d) p))

-- what is taken of a value at or above zero, and of one below
pub record Above (r : Range) (v : Exact) (x : ℕ) : Type 0 where
  pub low : r.low * v.under ≤ r.bias * v.under + v.over
  pub high : r.bias * v.under + v.over ≤ r.high * v.under
  pub value : r.bias + rounded r.step v ≡ x

pub record Below (r : Range) (v : Exact) (x : ℕ) : Type 0 where
  pub low : r.low * v.under + v.over ≤ r.bias * v.under
  pub value : r.bias - rounded r.step v ≡ x

-- what is taken is one of these
pub taken_as : (r : Range) (v : Exact) (x : ℕ) → argument_of r v ≡ Some x → Above r v x ⊎ Below r v x
unfolding argument_of in_range
taken_as r v x = whether (in_range r v && (not r.whole || is_whole v)) refl where
  sided : (n : Bool) →
      cond n
      (leb (r.low * v.under + v.over) (r.bias * v.under)
      && leb (r.bias * v.under) (r.high * v.under + v.over))
      (leb (r.low * v.under) (r.bias * v.under + v.over)
      && leb (r.bias * v.under + v.over) (r.high * v.under))
      ≡ true
      → cond n (r.bias - rounded r.step v) (r.bias + rounded r.step v) ≡ x → Above r v x ⊎ Below r v x
  sided true p e =
      let bias = r.bias * v.under in
      let b = both_le (r.low * v.under + v.over) bias bias (r.high * v.under + v.over) p in
      inr (record { low = b.0; value = e })
  sided false p e =
      let value = r.bias * v.under + v.over in
      let b = both_le (r.low * v.under) value value (r.high * v.under) p in
      inl (record { low = b.0; high = b.1; value = e })

  whether : (t : Bool) → (in_range r v && (not r.whole || is_whole v)) ≡ t →
      cond t (Some (cond v.negative (r.bias - rounded r.step v) (r.bias + rounded r.step v))) None
      ≡ Some x
      → Above r v x ⊎ Below r v x
  whether true p e = sided v.negative (and_first (in_range r v) (not r.whole || is_whole v) p) (cc)
  whether false p e = let z : ◌≡◌ {A = ℕ} 0 1 = cc in absurd (omega arith)

-- only the first where the range lies above zero
pub taken_above : (r : Range) (v : Exact) → 0 < v.under → r.bias < r.low → (x : ℕ) → argument_of r v ≡ Some x →
    Above r v x
taken_above r v pos order x e =
    let l : r.bias * v.under < r.low * v.under = mul-lt-mul_of_pos_right order pos in
    ⊎_elim (λ a. a) (λ (b : Below r v x). absurd (omega arith)) (taken_as r v x e)

-- the ends and the bias lie on the step
pub record Aligned (r : Range) : Type 0 where
  pub step : 1 ≤ r.step
  pub bias : r.bias % r.step ≡ 0
  pub low : r.low % r.step ≡ 0
  pub high : r.high % r.step ≡ 0
  pub order : r.bias ≤ r.high

-- a number in a range and on its step
pub record Inside (r : Range) (x : ℕ) : Type 0 where
  pub low : r.low ≤ x
  pub high : x ≤ r.high
  pub step : x % r.step ≡ 0

module _ (r : Range) (v : Exact) (pos : 0 < v.under) (al : Aligned r) where
  -- the unit of rounding is not 0
  installation : 0 < v.under * r.step
  installation = mul-pos pos al.step

  -- a number on the step
  on_step_lem : (m : ℕ) → m % r.step ≡ 0 → m ≡ m / r.step * r.step
  on_step_lem m h = omega (arith, div-add-mod' m r.step)

  -- and so in units of the step
  scaled : (m : ℕ) → m % r.step ≡ 0 → m * v.under ≡ m / r.step * (v.under * r.step)
  scaled m h =
      ap (λ k. k * v.under) (on_step_lem m h) ∙ mul_assoc (m / r.step) r.step v.under
      ∙ ap (λ k. m / r.step * k) (mul_comm r.step v.under)

  low_scaled : r.low * v.under ≡ r.low / r.step * (v.under * r.step)
  low_scaled = scaled r.low al.low

  bias_scaled : r.bias * v.under ≡ r.bias / r.step * (v.under * r.step)
  bias_scaled = scaled r.bias al.bias

  pub above : r.low * v.under ≤ r.bias * v.under + v.over → r.bias * v.under + v.over ≤ r.high * v.under →
      Inside r (r.bias + rounded r.step v)
  above p q =
      let u = v.under * r.step in
      let n = nearest v.over u in
      let b = r.bias / r.step in
      let l : r.low / r.step ≤ b + n =
      nearest_ge v.over u installation b (r.low / r.step) (omega (arith, low_scaled, bias_scaled)) in
      let h : b + n ≤ r.high / r.step =
      nearest_le v.over u installation b (r.high / r.step) (omega (arith, scaled r.high al.high, bias_scaled)) in
      let e : r.bias + n * r.step ≡ (b + n) * r.step =
      omega (arith, on_step_lem r.bias al.bias, add-mul b n r.step) in
      record {
        low = omega (arith, mul-le-mul_right r.step l, on_step_lem r.low al.low, e);
        high = omega (arith, mul-le-mul_right r.step h, on_step_lem r.high al.high, e);
        step = rw e (mul-mod_left (b + n) r.step);
      }

  below : r.low * v.under + v.over ≤ r.bias * v.under → Inside r (r.bias - rounded r.step v)
  below p =
      let u = v.under * r.step in
      let n = nearest v.over u in
      let b = r.bias / r.step in
      let bias = on_step_lem r.bias al.bias in
      let l : r.low / r.step + n ≤ b =
      nearest_le v.over u installation (r.low / r.step) b (omega (arith, low_scaled, bias_scaled)) in
      let m : n ≤ b = omega arith in
      let s : b ≡ b - n + n = omega arith in
      let e : r.bias - n * r.step ≡ (b - n) * r.step =
      omega (arith, bias, add-mul (b - n) n r.step, ap (λ k. k * r.step) s) in
      let sum = add-mul (r.low / r.step) n r.step in
      record {
        low = omega (arith, mul-le-mul_right r.step l, sum, on_step_lem r.low al.low, bias);
        high = omega (arith, al.order);
        step = rw e (mul-mod_left (b - n) r.step);
      }

  -- an argument that is taken lies in its range and on its step
  pub taken_inside : (x : ℕ) → argument_of r v ≡ Some x → Inside r x
  taken_inside x e =
      ⊎_elim (λ (a : Above r v x). rw (sym a.value) (above a.low a.high))
      (λ (b : Below r v x). rw (sym b.value) (below b.low))
      (taken_as r v x e)
