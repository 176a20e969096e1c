-- The frequency range and the time constant after a change are ones that may stand; where they already were, nothing
-- changes. Assumes nothing.
use Prim.Native.Nat.{ℕ, ◌+◌, ◌≤◌}
use mathlib.Core.Path.{◌≡◌, refl, sym}
use mathlib.Core.Bool.{Bool, true, false, cond, not, ◌||◌, true≢false}
use native.Mathlib.Omega.{arith}
use lib.Dec.{leb, ltb}
use borrow.Author.Tests.{le-leb, leb-true, leb-false, ltb-true, ltb-false, le-ltb}
use Rattle.settings.specs.Limits.{band_low, band_high, upper_constant_most}
use Rattle.settings.specs.Frequency.{is_upper, range_at, range_stands, time_constant_stands, range_changed_bit}
use Rattle.settings.specs.Frequency.{change_bits, shortened_bit, range_effect_of}
use Rattle.settings.specs.declared.FrequencyRange.{FrequencyRange}
use Rattle.settings.specs.declared.FrequencyRange.TheVariants.{Upper, Lower}
use Rattle.settings.specs.declared.RangeEffect.{RangeEffect}

-- ---- the range at a detection frequency

module _ (detection : ℕ) where
  -- whatever it was, the range may stand
  pub range_stands_lem : (old : FrequencyRange) → range_stands detection (range_at detection old) ≡ true
  unfolding range_at
  range_stands_lem old = by (ltb band_high detection) (ltb detection band_low) refl refl old where
    by : (above below : Bool) → ltb band_high detection ≡ above → ltb detection band_low ≡ below → (r : FrequencyRange) →
        range_stands detection (cond above Upper (cond below Lower r)) ≡ true
    by true below a b r = rw (le-leb band_low detection (omega (arith, ltb-true band_high detection a)))
    by false true a b r = rw (le-leb detection band_high (omega (arith, ltb-true detection band_low b)))
    by false false a b Upper = rw (le-leb band_low detection (omega (arith, ltb-false detection band_low b)))
    by false false a b Lower = rw (le-leb detection band_high (omega (arith, ltb-false band_high detection a)))

  -- one that may stand stays
  pub range_stays : (r : FrequencyRange) → range_stands detection r ≡ true → range_at detection r ≡ r
  unfolding range_at
  range_stays Upper e = by (ltb band_high detection) where
    by : (above : Bool) → cond above Upper (cond (ltb detection band_low) Lower Upper) ≡ Upper
    by true = refl
    by false = rw (le-ltb detection band_low (leb-true band_low detection e))
  range_stays Lower e = rw (le-ltb band_high detection (leb-true detection band_high e))
      (by (ltb detection band_low)) where
        by : (below : Bool) → cond below Lower Lower ≡ Lower
        by true = refl
        by false = refl

-- a higher detection frequency, from a range that is upper where the other is, leads to the upper range where the other
-- does
pub range_mono : (d e : ℕ) (r s : FrequencyRange) → d ≤ e → (is_upper r ≡ true → is_upper s ≡ true) →
    is_upper (range_at d r) ≡ true → is_upper (range_at e s) ≡ true
unfolding range_at
range_mono d e r s le up =
    by (ltb band_high d) (ltb d band_low) (ltb band_high e) (ltb e band_low) refl refl refl refl
  where
    by : (above below above' below' : Bool) → ltb band_high d ≡ above → ltb d band_low ≡ below → ltb band_high e ≡ above' →
        ltb e band_low ≡ below' → is_upper (cond above Upper (cond below Lower r)) ≡ true →
        is_upper (cond above' Upper (cond below' Lower s)) ≡ true
    by above below true below' a b c l u = refl
    by true false false false a b c l u = absurd (omega (arith, le, ltb-true band_high d a, ltb-false band_high e c))
    by false false false false a b c l u = up u
    by true true false below' a b c l u = absurd (omega (arith, ltb-true band_high d a, ltb-true d band_low b))
    by false true false below' a b c l u = absurd (true≢false (sym u))
    by above false false true a b c l u = absurd (omega (arith, le, ltb-false d band_low b, ltb-true e band_low l))

-- ---- the time constant

module _ (old new : FrequencyRange) (constant : ℕ) where
  -- what is not left as it was
  abbrev shortened : RangeEffect
  shortened = record { constant = upper_constant_most; bits = change_bits old new + shortened_bit }

  -- the time constant after a change may stand
  pub effect_stands : time_constant_stands new (range_effect_of old new constant).constant ≡ true
  unfolding range_effect_of
  effect_stands = by (time_constant_stands new constant) refl where
    by : (t : Bool) → time_constant_stands new constant ≡ t →
        time_constant_stands new
        (cond t (record { constant = constant; bits = change_bits old new }) shortened).constant ≡ true
    by true e = e
    by false e = refl

  -- and is no longer than before
  pub effect_le : (range_effect_of old new constant).constant ≤ constant
  unfolding range_effect_of
  effect_le = by (leb constant upper_constant_most) (not (is_upper new)) refl where
    by : (short lower : Bool) → leb constant upper_constant_most ≡ short →
        (cond (short || lower) (record { constant = constant; bits = change_bits old new }) shortened).constant ≤ constant
    by true lower e = omega arith
    by false true e = omega arith
    by false false e = omega (arith, leb-false constant upper_constant_most e)

  -- the LIA bits that it sets are 4, 5, both or none: what holds of these four masks holds of it
  pub effect_bits : (P : ℕ → Type 0) → P 0 → P range_changed_bit → P shortened_bit → P (range_changed_bit + shortened_bit) →
      P (range_effect_of old new constant).bits
  unfolding range_effect_of
  effect_bits P none four five both = by (time_constant_stands new constant) old new where
    by : (t : Bool) (a b : FrequencyRange) →
        let e : RangeEffect = cond t (record { constant = constant; bits = change_bits a b })
        (record { constant = upper_constant_most; bits = change_bits a b + shortened_bit }) in
        P e.bits
    by true Upper Upper = none
    by true Upper Lower = four
    by true Lower Upper = four
    by true Lower Lower = none
    by false Upper Upper = five
    by false Upper Lower = both
    by false Lower Upper = both
    by false Lower Lower = five

-- the same range with a time constant that stands does nothing
pub effect_none : (r : FrequencyRange) (constant : ℕ) → time_constant_stands r constant ≡ true →
    range_effect_of r r constant ≡ record { constant = constant; bits = 0 }
unfolding range_effect_of
effect_none Upper constant e = rw e refl
effect_none Lower constant e = rw e refl
