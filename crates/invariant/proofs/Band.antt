-- What a measured frequency that is taken changes, inside the band and everywhere. Assumes nothing.
use Prim.Native.Nat.{ℕ, ◌+◌, ◌*◌, ◌≤◌, ◌<◌}
use native.Mathlib.Omega.{arith}
use native.Mathlib.Nat.{mul_comm, mul-le-mul, le-mul_of_pos_right}
use mathlib.Core.Bool.{Bool, true, false, cond, ◌||◌, or-true, and-eq-true_iff}
use mathlib.Core.Path.{◌≡◌, refl}
use lib.Bits.{or_zero_r}
use lib.Dec.{leb, ltb}
use lib.Seq.{set-get_or}
use borrow.Author.Tests.{le-leb, leb-true, leb-false, ltb-true, ltb-false}
use Rattle.settings.specs.Limits.{frequency_low, frequency_high, detection_limit, band_low, band_high, upper_constant_most}
use Rattle.settings.specs.Table.{harm, oflt, value_of, with_value}
use Rattle.settings.specs.Frequency.{is_internal, in_force, detection_of, range_at, range_stands, time_constant_stands}
use Rattle.settings.specs.Frequency.{range_changed_bit, shortened_bit, range_effect_of}
use Rattle.settings.specs.declared.FrequencyRange.{FrequencyRange}
use Rattle.settings.specs.declared.FrequencyRange.TheVariants.{Upper, Lower}
use Rattle.settings.specs.declared.RangeEffect.{RangeEffect}
use Rattle.settings.proofs.Stands.{effect_none}
use Rattle.settings.proofs.Values.{harm-kept}
use Rattle.status.specs.Status.{with_lia}
use Rattle.state.specs.State.{with_range, with_settings, with_acquisition, with_registers, detection_now, range_settled}
use Rattle.state.specs.State.{settled}
use Rattle.state.specs.Valid.{valid_state}
use Rattle.state.specs.declared.State.{State}
use Rattle.state.proofs.Sound.{sound, ranged, settled_same}
use Rattle.event.specs.Event.{takes_frequency, with_external, measured_by, event_of}
use Rattle.module.specs.Module.{valid_module}
use Rattle.lockin.specs.Calls.{guarded, event_call}
use Rattle.invariant.specs.Band.{InsideBand, InsideBandStays, changed_to, Settles, stays, falls, rises, shortens}
use Rattle.invariant.specs.Band.{RangeMoves}
use Rattle.invariant.proofs.StaysValid.{passes}

module _ (s : State) (ok : valid_state s ≡ true) (f : ℕ) (inside : InsideBand s f) where
  -- it is taken: the harmonic is at most 19999
  taken : takes_frequency s f ≡ true
  unfolding takes_frequency
  taken =
      let h = value_of s.settings harm in
      let kept = harm-kept s.settings (sound s ok).tuned.values in
      let most : f ≤ frequency_high = omega (arith, le-mul_of_pos_right f kept.0, mul_comm f h, inside.high) in
      rw (
        by (leb frequency_low f) refl kept.1,
        le-leb f frequency_high most,
        le-leb (h * f) detection_limit (omega (arith, inside.high)),
      )
      refl
    where
      by : (t : Bool) → leb frequency_low f ≡ t → value_of s.settings harm ≤ 19999 → leb frequency_low f ≡ true
      by true e most = e
      by false e most =
          let short : f ≤ 9 = omega (arith, leb-false frequency_low f e) in
          absurd (omega (arith, mul-le-mul most short, inside.low))

  -- either range may stand there
  stands : (r : FrequencyRange) → range_stands (value_of s.settings harm * f) r ≡ true
  stands Upper = le-leb band_low _ inside.low
  stands Lower = le-leb _ band_high inside.high

  -- so nothing is to be settled
  same : is_internal s.settings ≡ false → settled (with_external f s) ≡ with_external f s
  same e =
      settled_same (with_external f s)
      (record {
        range = unfold detection_of in_force in rw e (stands s.acquisition.range);
        constant = (ranged s ok).constant;
      })

  measured : measured_by f s ≡ cond (is_internal s.settings) s (with_external f s)
  unfolding measured_by
  measured = rw taken (by (is_internal s.settings) refl) where
    by : (t : Bool) → is_internal s.settings ≡ t →
        cond t s (settled (with_external f s)) ≡ cond t s (with_external f s)
    by true e = refl
    by false e = same e

pub inside_band_stays : InsideBandStays
unfolding event_call guarded event_of valid_module
inside_band_stays m one two f guard inside =
    let ok = ((and-eq-true_iff (valid_state m.state) _).0 (passes m _ _ guard).valid).0 in
    rw (guard, measured m.state ok f inside) refl

-- ---- everywhere

module _ (s : State) where
  abbrev constant : ℕ
  constant = value_of s.settings oflt

  -- the state in a range, with what that does
  abbrev within : FrequencyRange → RangeEffect → State
  within r effect =
      with_settings (with_value s.settings oflt effect.constant)
      (with_acquisition (with_range r s.acquisition) (with_registers (with_lia s.registers effect.bits) s))

  -- a time constant that stays
  kept : (r : FrequencyRange) (bits : ℕ) → within r (record { constant = constant; bits = bits }) ≡ changed_to r bits s
  kept r bits = rw (set-get_or s.settings.values oflt 0) refl

  -- the range stays
  staying : (r : FrequencyRange) → s.acquisition.range ≡ r → time_constant_stands r constant ≡ true →
      range_stands (detection_now s) r ≡ true → Settles s (within r (range_effect_of r r constant))
  staying r e t stood =
      rw (effect_none r constant t, kept r 0, ← e, or_zero_r s.registers.lia) (stays (rw e stood))

  falling : detection_now s < band_low → s.acquisition.range ≡ Upper →
      Settles s (within Lower (range_effect_of Upper Lower constant))
  unfolding range_effect_of
  falling d e = rw (or-true (leb constant upper_constant_most), kept Lower range_changed_bit) (falls d e)

  rising : band_high < detection_now s → s.acquisition.range ≡ Lower →
      Settles s (within Upper (range_effect_of Lower Upper constant))
  unfolding range_effect_of
  rising d e = by (leb constant upper_constant_most) refl where
    by : (t : Bool) → leb constant upper_constant_most ≡ t →
        Settles s (within Upper
        (cond (t || false) (record { constant = constant; bits = range_changed_bit })
        (record { constant = upper_constant_most; bits = range_changed_bit + shortened_bit })))
    by true l = rw (kept Upper range_changed_bit) (rises d e (leb-true constant upper_constant_most l))
    by false l = shortens d e (leb-false constant upper_constant_most l)

  -- by where the detection frequency lies
  moved : (old : FrequencyRange) → s.acquisition.range ≡ old → time_constant_stands old constant ≡ true →
      (above below : Bool) → ltb band_high (detection_now s) ≡ above → ltb (detection_now s) band_low ≡ below →
      let new = cond above Upper (cond below Lower old) in
      Settles s (within new (range_effect_of old new constant))
  moved Upper e t true below a b =
      staying Upper e t (le-leb band_low (detection_now s) (omega (arith, ltb-true band_high (detection_now s) a)))
  moved Lower e t true below a b = rising (ltb-true band_high (detection_now s) a) e
  moved Upper e t false true a b = falling (ltb-true (detection_now s) band_low b) e
  moved Lower e t false true a b =
      staying Lower e t (le-leb (detection_now s) band_high (omega (arith, ltb-true (detection_now s) band_low b)))
  moved Upper e t false false a b =
      staying Upper e t (le-leb band_low (detection_now s) (omega (arith, ltb-false (detection_now s) band_low b)))
  moved Lower e t false false a b =
      staying Lower e t (le-leb (detection_now s) band_high (omega (arith, ltb-false band_high (detection_now s) a)))

  -- a time constant that stood in the range before
  settles : time_constant_stands s.acquisition.range constant ≡ true → Settles s (settled s)
  unfolding settled range_settled range_at
  settles t =
      moved s.acquisition.range refl t (ltb band_high (detection_now s)) (ltb (detection_now s) band_low) refl refl

pub range_moves : RangeMoves
unfolding event_call guarded event_of measured_by valid_module
range_moves m one two f guard mode taken =
    let s = m.state in
    let ok = ((and-eq-true_iff (valid_state s) _).0 (passes m _ _ guard).valid).0 in
    rw (guard, mode, taken) (settles (with_external f s) (ranged s ok).constant)
