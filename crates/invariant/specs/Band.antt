-- What a measured frequency that is taken does besides (§6.5, §6.7, §6.8): where the frequency range stays, nothing;
-- and inside the band it stays, so that a chopper that drifts there leaves the settings of a measurement as they were.
use Rattle.std.specs.Prelude.{ℕ, ◌+◌, ◌*◌, ◌≤◌, ◌<◌, true, false, cond, ◌≡◌, List, length}
use Rattle.settings.specs.Limits.{band_low, band_high, upper_constant_most}
use Rattle.settings.specs.Table.{harm, oflt, value_of, with_value}
use Rattle.settings.specs.Frequency.{is_internal, range_stands, range_changed_bit, shortened_bit}
use Rattle.settings.specs.declared.FrequencyRange.{FrequencyRange}
use Rattle.settings.specs.declared.FrequencyRange.TheVariants.{Upper, Lower}
use Rattle.status.specs.Status.{with_lia}
use Rattle.outcome.specs.Code.{done}
use Rattle.event.specs.Event.{takes_frequency, with_external}
use Rattle.event.specs.declared.Event.TheVariants.{Measured}
use Rattle.state.specs.State.{with_range, with_settings, with_acquisition, with_registers, detection_now}
use Rattle.state.specs.declared.State.{State}
use Rattle.module.specs.Module.{guard_of}
use Rattle.module.specs.declared.Module.{Module}
use Rattle.reply_buffer.specs.After.{silent}
use Rattle.lockin.specs.Calls.{event_call}

-- ---- inside the band

-- §6.2 and §6.5: a measured frequency whose detection frequency is inside the band, both ends among it
pub record InsideBand (s : State) (f : ℕ) : Type 0 where
  pub low : band_low ≤ value_of s.settings harm * f
  pub high : value_of s.settings harm * f ≤ band_high

-- §6.1 and §9.2: a module that has taken a measured frequency, where its reference is external; all else stays
abbrev pub taken_by : ℕ → Module → Module
taken_by f m =
    let s = m.state in
    record { queue = m.queue; state = cond (is_internal s.settings) s (with_external f s) }

-- §6.5, §6.7, §6.8 and §9.3: in every module that 11 and 9 let pass, upper or lower and with any time constant that it
-- may have, such a frequency is taken, and the event answers 0 and changes nothing else
abbrev pub InsideBandStays : Type 0
InsideBandStays =
    (m : Module) (one two : List ℕ) (f : ℕ) → guard_of m (length one) (length two) ≡ done → InsideBand m.state f →
    event_call (Measured f) m one two ≡ silent done (taken_by f m) one two

-- ---- everywhere

-- §6.8: a state in another frequency range, with LIA bits set
abbrev pub changed_to : FrequencyRange → ℕ → State → State
changed_to r bits s = with_acquisition (with_range r s.acquisition) (with_registers (with_lia s.registers bits) s)

-- what comes of a state once its detection frequency has changed: one of four
pub data Settles (s : State) : State → Type 0 where
  -- §6.5: the range may stand at the detection frequency: it stays, and so does all else
  stays : range_stands (detection_now s) s.acquisition.range ≡ true → Settles s s
  -- §6.5 and §6.8: below the band the range falls: LIA bit 4
  falls : detection_now s < band_low → s.acquisition.range ≡ Upper → Settles s (changed_to Lower range_changed_bit s)
  -- §6.5 and §6.8: above it the range rises: LIA bit 4; the time constant is one of the upper range
  rises : band_high < detection_now s → s.acquisition.range ≡ Lower → value_of s.settings oflt ≤ upper_constant_most →
      Settles s (changed_to Upper range_changed_bit s)
  -- §6.7: or it is longer and becomes the longest of the upper range: LIA bits 4 and 5
  shortens : band_high < detection_now s → s.acquisition.range ≡ Lower →
      upper_constant_most < value_of s.settings oflt →
      Settles s
      (with_settings (with_value s.settings oflt upper_constant_most)
      (changed_to Upper (range_changed_bit + shortened_bit) s))

-- §6.5, §6.7 and §6.8: a measured frequency that is taken changes the external frequency, and then does one of the
-- four: so LIA bit 5 never comes without bit 4, and no time constant changes while the range stays
abbrev pub RangeMoves : Type 0
RangeMoves =
    (m : Module) (one two : List ℕ) (f : ℕ) → guard_of m (length one) (length two) ≡ done →
    is_internal m.state.settings ≡ false → takes_frequency m.state f ≡ true →
    Settles (with_external f m.state) (event_call (Measured f) m one two).after.state
