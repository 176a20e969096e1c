-- What an argument sets a state may keep, so that no command leads to refusal 11. Assumes nothing.
use Prim.Native.Nat.{ℕ, ◌+◌, ◌*◌, ◌%◌, ◌<◌, ◌≤◌}
use mathlib.Core.Path.{◌≡◌, refl, sym}
use mathlib.Core.Bool.{Bool, true, false, true≢false, cond, ◌||◌}
use native.Mathlib.Omega.{arith}
use native.Mathlib.Nat.{zero-mod, mod-one}
use lib.Dec.{T, leb, ltb, eqb, eqb→eq, leb→le}
use lib.ListN.{length}
use lib.Seq.{get_or-set_same, get_or-set_other, set_out}
use borrow.Author.Tests.{lt-ltb, le-ltb, le-leb, ltb-true, ltb-false, eqb-true, eqb-false}
use Rattle.number.specs.Value.{Exact, exact_of, rounded, argument_of}
use Rattle.number.specs.declared.Range.{Range}
use Rattle.std.specs.Prelude.{Option, Some, None}
use Rattle.number.proofs.Exact.{under_pos}
use Rattle.settings.specs.Limits.{hertz, frequency_low, frequency_high}
use Rattle.settings.specs.Table.{entries, table, row_of, phase, frequency, turned_of, value_of, with_value}
use Rattle.settings.specs.Frequency.{step_by, frequency_step}
use Rattle.settings.specs.Setting.{step_with, range_with, exact_step, turned_at, setting_of, step_of}
use Rattle.settings.specs.Valid.{value_valid, values_valid}
use Rattle.settings.specs.Invariant.{SettingValid, WithValid}
use Rattle.settings.proofs.Rows.{row_rule, row_step, frequency-row, phase-row}
use Rattle.settings.proofs.Every.{every_at, every_of}
use Rattle.settings.proofs.Phase.{turned_is}
use Rattle.settings.proofs.Rounded.{Aligned, Inside, Above, above, taken_above, taken_inside}

-- the frequencies that one step serves
abbrev decade : ℕ → ℕ → ℕ → Range
decade s low high = record { bias = 0; low = low; high = high; step = s; whole = false }

-- a decade's ends lie on its step and in the range, and its values have the step
record Decade (s low high : ℕ) : Type 0 where
  aligned : Aligned (decade s low high)
  top : high % frequency_step high ≡ 0
  least : frequency_low ≤ low
  most : high ≤ frequency_high
  inner : (y : ℕ) → low ≤ y → y < high → frequency_step y ≡ s

-- such a decade, by tests that compute
decade_of : {s low high : ℕ} → 1 ≤ s → low % s ≡ 0 → high % s ≡ 0 → high % frequency_step high ≡ 0 →
    (frequency_low ≤ low) × (high ≤ frequency_high) →
    ((y : ℕ) → low ≤ y → y < high → frequency_step y ≡ s) → Decade s low high
decade_of {s} p l h top ends inner =
    record {
      aligned = record { step = p; bias = zero-mod s; low = l; high = h; order = omega arith };
      top = top;
      least = ends.0;
      most = ends.1;
      inner = inner;
    }

-- a frequency in the frequency's range and on its step
record Lies (x : ℕ) : Type 0 where
  least : frequency_low ≤ x
  most : x ≤ frequency_high
  step : x % frequency_step x ≡ 0

-- a frequency rounded within its decade
module _ {s low high : ℕ} (d : Decade s low high) (v : Exact) (pos : 0 < v.under) where
  in_decade : low * v.under ≤ v.over → v.over ≤ high * v.under → (x : ℕ) → 0 + rounded s v ≡ x → Lies x
  in_decade p q x e = at (rw (sym e) (above (decade s low high) v pos d.aligned (omega arith) (omega arith))) where
    at : Inside (decade s low high) x → Lies x
    at i =
        record {
          least = omega (arith, d.least, i.low);
          most = omega (arith, d.most, i.high);
          step = by (ltb x high) refl;
        } where
          by : (t : Bool) → ltb x high ≡ t → x % frequency_step x ≡ 0
          by true l = rw (d.inner x i.low (ltb-true x high l)) i.step
          by false l = let e : x ≡ high = omega (arith, ltb-false x high l, i.high) in rw e d.top

-- a frequency, by the step that its exact value has
module _ (v : Exact) (pos : 0 < v.under) where
  -- the exact value is below k
  under : ℕ → Bool
  under k = ltb v.over (k * v.under)

  -- what is taken of it lies in the range and on its step
  lies : (x : ℕ) → argument_of (range_with frequency (exact_step v)) v ≡ Some x → Lies x
  unfolding step_by under
  lies x e =
      by (under (hertz 10)) (under (hertz 100)) (under (hertz 1000)) (under (hertz 10000)) (under (hertz 100000))
      refl refl refl refl refl where
        t : Above (range_with frequency (exact_step v)) v x
        t = taken_above (range_with frequency (exact_step v)) v pos (omega arith) x e

        lower : (k : ℕ) → under k ≡ false → k * v.under ≤ v.over
        lower k = ltb-false v.over (k * v.under)

        upper : (k : ℕ) → under k ≡ true → v.over ≤ k * v.under
        upper k p = omega (arith, ltb-true v.over (k * v.under) p)

        by : (a b c d f : Bool) → under (hertz 10) ≡ a → under (hertz 100) ≡ b → under (hertz 1000) ≡ c →
            under (hertz 10000) ≡ d → under (hertz 100000) ≡ f → Lies x
        by true b c d f p1 p2 p3 p4 p5 =
            in_decade {s = 1} {low = frequency_low} {high = hertz 10}
            (decade_of (omega arith) refl refl refl (omega arith) λ y l h. simp (lt-ltb y (hertz 10) h))
            v pos (omega (arith, t.low)) (upper (hertz 10) p1) x (simp p1 at t.value)
        by false true c d f p1 p2 p3 p4 p5 =
            in_decade {s = 10} {low = hertz 10} {high = hertz 100}
            (decade_of (omega arith) refl refl refl (omega arith)
            λ y l h. simp (le-ltb y (hertz 10) l, lt-ltb y (hertz 100) h))
            v pos (lower (hertz 10) p1) (upper (hertz 100) p2) x (simp (p1, p2) at t.value)
        by false false true d f p1 p2 p3 p4 p5 =
            in_decade {s = 100} {low = hertz 100} {high = hertz 1000}
            (decade_of (omega arith) refl refl refl (omega arith)
            λ y l h. simp (le-ltb y (hertz 10) (omega arith), le-ltb y (hertz 100) l, lt-ltb y (hertz 1000) h))
            v pos (lower (hertz 100) p2) (upper (hertz 1000) p3) x (simp (p1, p2, p3) at t.value)
        by false false false true f p1 p2 p3 p4 p5 =
            in_decade {s = 1000} {low = hertz 1000} {high = hertz 10000}
            (decade_of (omega arith) refl refl refl (omega arith)
            λ y l h. simp (
              le-ltb y (hertz 10) (omega arith),
              le-ltb y (hertz 100) (omega arith),
              le-ltb y (hertz 1000) l,
              lt-ltb y (hertz 10000) h,
            ))
            v pos (lower (hertz 1000) p3) (upper (hertz 10000) p4) x (simp (p1, p2, p3, p4) at t.value)
        by false false false false true p1 p2 p3 p4 p5 =
            in_decade {s = 10000} {low = hertz 10000} {high = hertz 100000}
            (decade_of (omega arith) refl refl refl (omega arith)
            λ y l h. simp (
              le-ltb y (hertz 10) (omega arith),
              le-ltb y (hertz 100) (omega arith),
              le-ltb y (hertz 1000) (omega arith),
              le-ltb y (hertz 10000) l,
              lt-ltb y (hertz 100000) h,
            ))
            v pos (lower (hertz 10000) p4) (upper (hertz 100000) p5) x (simp (p1, p2, p3, p4, p5) at t.value)
        by false false false false false p1 p2 p3 p4 p5 =
            in_decade {s = 100000} {low = hertz 100000} {high = frequency_high}
            (decade_of (omega arith) refl refl refl (omega arith)
            λ y l h. simp (
              le-ltb y (hertz 10) (omega arith),
              le-ltb y (hertz 100) (omega arith),
              le-ltb y (hertz 1000) (omega arith),
              le-ltb y (hertz 10000) (omega arith),
              le-ltb y (hertz 100000) l,
            ))
            v pos (lower (hertz 100000) p5) (omega (arith, t.high)) x (simp (p1, p2, p3, p4, p5) at t.value)

-- every row that does not turn keeps what it takes
record Plain (entry : ℕ) : Type 0 where
  least : (row_of entry).least ≡ (row_of entry).low
  most : (row_of entry).most ≡ (row_of entry).high

-- which computes
plain_at : (entry : ℕ) → (row_of entry).turns ≡ false → Plain entry
unfolding table
plain_at entry f =
    record {
      least = by (row_of entry).turns f (row_rule (λ r. r.turns || eqb r.least r.low) tt tt entry);
      most = by (row_of entry).turns f (row_rule (λ r. r.turns || eqb r.most r.high) tt tt entry);
    } where
      by : (t : Bool) {a b : ℕ} → t ≡ false → T (t || eqb a b) → a ≡ b
      by true e h = absurd (true≢false e)
      by false e h = eqb→eq _ _ h

-- the ends of a row with a step of its own lie on the step
aligned_at : (entry own : ℕ) → (row_of entry).scales ≡ false →
    Aligned (range_with (row_of entry) (step_with (row_of entry) own))
unfolding table
aligned_at entry own = by (row_of entry).scales where
  by : (t : Bool) → t ≡ false → Aligned (range_with (row_of entry) (cond t own (row_of entry).step))
  by true f = absurd (true≢false f)
  by false f =
      record {
        step = row_step entry;
        bias = eqb→eq _ 0 (row_rule (λ r. eqb (r.bias % r.step) 0) tt tt entry);
        low = eqb→eq _ 0 (row_rule (λ r. eqb (r.low % r.step) 0) tt tt entry);
        high = eqb→eq _ 0 (row_rule (λ r. eqb (r.high % r.step) 0) tt tt entry);
        order = leb→le _ _ (row_rule (λ r. leb r.bias r.high) tt tt entry);
      }

module _ (entry : ℕ) where
  -- a value that is turned may be kept
  phase_keeps : (row_of entry).turns ≡ true → (y : ℕ) → value_valid entry (turned_of y) ≡ true
  unfolding value_valid step_of
  phase_keeps p y =
      let z = turned_of y in
      rw (
        phase-row entry p,
        le-leb phase.least z (turned_is y).least,
        le-leb z phase.most (turned_is y).most,
        mod-one z,
      )

  -- and a frequency
  frequency_keeps : (row_of entry).scales ≡ true → (x : ℕ) → Lies x → value_valid entry x ≡ true
  unfolding value_valid step_of
  frequency_keeps f x l =
      rw (frequency-row entry f, le-leb frequency_low x l.least, le-leb x frequency_high l.most, l.step)

module _ (entry : ℕ) (v : Exact) (pos : 0 < v.under) where
  -- what is taken of the value, before it is turned
  taken : Option ℕ
  taken = argument_of (range_with (row_of entry) (step_with (row_of entry) (exact_step v))) v

  -- and any other
  other_keeps : (row_of entry).turns ≡ false → (row_of entry).scales ≡ false → (x : ℕ) → taken ≡ Some x →
      value_valid entry x ≡ true
  unfolding value_valid step_of taken
  other_keeps p f x e =
      let i = taken_inside _ v pos (aligned_at entry (exact_step v) f) x e in
      let q = plain_at entry p in
      let s : x % (row_of entry).step ≡ 0 = rw f at i.step in
      rw (q.least, q.most, f, le-leb (row_of entry).low x i.low, le-leb x (row_of entry).high i.high, s)

  -- what an argument is taken as, once it is turned
  value_keeps : (x : ℕ) → turned_at (row_of entry).turns taken ≡ Some x → value_valid entry x ≡ true
  unfolding turned_at taken
  value_keeps x = by taken refl where
    which : (a b : Bool) → (row_of entry).turns ≡ a → (row_of entry).scales ≡ b → (y : ℕ) → taken ≡ Some y →
        cond a (turned_of y) y ≡ x → value_valid entry x ≡ true
    which true b p f y e q = rw (sym q) (phase_keeps entry p y)
    which false true p f y e q = rw (sym q) (frequency_keeps entry f y (lies v pos y (rw (frequency-row entry f) at e)))
    which false false p f y e q = rw (sym q) (other_keeps p f y e)

    by : (t : Option ℕ) → taken ≡ t → turned_at (row_of entry).turns t ≡ Some x → value_valid entry x ≡ true
    by None p q = let z : ◌≡◌ {A = ℕ} 0 1 = cc in absurd (omega arith)
    by (Some y) p q = which (row_of entry).turns (row_of entry).scales refl refl y p (cc)

-- what a text sets may be kept
pub setting_keeps : SettingValid
unfolding setting_of taken
setting_keeps entry h s =
    value_keeps entry (exact_of (row_of entry).decimals s) (under_pos (row_of entry).decimals s)

-- and settings stay such that every value may be kept
pub with_keeps : WithValid
unfolding values_valid
with_keeps s entry x h k =
    let before = every_at (λ i. value_valid i (value_of s i)) entries h in
    every_of (λ i. value_valid i (value_of (with_value s entry x) i)) entries λ i l. at i (before i l) where
      at : (i : ℕ) → value_valid i (value_of s i) ≡ true → value_valid i (value_of (with_value s entry x) i) ≡ true
      at i old = by (eqb i entry) refl (ltb entry (length s.values)) refl where
        by : (a : Bool) → eqb i entry ≡ a → (b : Bool) → ltb entry (length s.values) ≡ b →
            value_valid i (value_of (with_value s entry x) i) ≡ true
        by false n b l = rw (get_or-set_other s.values entry i x 0 (eqb-false i entry n)) old
        by true n true l = rw (eqb-true i entry n, get_or-set_same s.values entry x 0 (ltb-true entry _ l)) k
        by true n false l = rw (set_out s.values entry x (ltb-false entry _ l)) old
