-- Frequencies and the rules that bind them, in units of 0.1 mHz: §5.3, §6.1, §6.2, §6.3, §6.5, §6.6, §6.7, §6.8 and
-- §9.3.
use Rattle.std.specs.Prelude.{ℕ, ◌+◌, ◌*◌, Bool, true, false, cond, not, ◌&&◌, ◌||◌, leb, ltb, eqb}
use Rattle.settings.specs.Limits.{frequency_low, frequency_high, frequency_start}
use Rattle.settings.specs.Limits.{detection_limit, band_low, band_high, upper_constant_most}
pub use Rattle.settings.specs.Limits.{hertz}
use Rattle.settings.specs.Table.{fmod, freq, harm, value_of}
use Rattle.settings.specs.declared.Settings.{Settings}
use Rattle.settings.specs.declared.FrequencyRange.{FrequencyRange}
use Rattle.settings.specs.declared.FrequencyRange.TheVariants.{Upper, Lower}
use Rattle.settings.specs.declared.RangeEffect.{RangeEffect}

-- §5.3: the step by the value before it is rounded: 0.1 mHz below 10 Hz, 1 mHz below 100 Hz, 10 mHz below 1 kHz, 0.1 Hz
-- below 10 kHz, 1 Hz below 100 kHz, else 10 Hz; below k says whether the value is below k
unfoldable pub step_by : (ℕ → Bool) → ℕ
step_by below =
    cond (below (hertz 10)) 1
    (cond (below (hertz 100)) 10
    (cond (below (hertz 1000)) 100
    (cond (below (hertz 10000)) 1000
    (cond (below (hertz 100000)) 10000 100000))))

-- §5.3: the step of a value by its whole units
abbrev pub frequency_step : ℕ → ℕ
frequency_step whole = step_by (λ k. ltb whole k)

-- §5.1: FMOD's value while the internal frequency is the reference; 0 is external
abbrev pub internal : ℕ
internal = 1

-- §6.1: whether the internal frequency is the reference
abbrev pub is_internal : Settings → Bool
is_internal s = eqb (value_of s fmod) internal

-- §6.1: frequency in force (a term of document 01): the internal or the external one, by FMOD
unfoldable pub in_force : Settings → ℕ → ℕ
in_force s external = cond (is_internal s) (value_of s freq) external

-- §6.2: the detection frequency: the frequency in force times HARM's value
unfoldable pub detection_of : Settings → ℕ → ℕ
detection_of s external = value_of s harm * in_force s external

-- §6.3: whether a detection frequency is at most 102 kHz
abbrev pub within_limit : ℕ → Bool
within_limit detection = leb detection detection_limit

-- §6.5: whether a frequency range (a term of Req 02) is the upper one
abbrev pub is_upper : FrequencyRange → Bool
is_upper Upper = true
is_upper Lower = false

-- §6.5: the range at a detection frequency, where it was old: upper above the band, lower below it, inside it the old
unfoldable pub range_at : ℕ → FrequencyRange → FrequencyRange
range_at detection old = cond (ltb band_high detection) Upper (cond (ltb detection band_low) Lower old)

-- §6.5: whether a range may stand at a detection frequency: not upper below the band, nor lower above it
abbrev pub range_stands : ℕ → FrequencyRange → Bool
range_stands detection Upper = leb band_low detection
range_stands detection Lower = leb detection band_high

-- §6.6: whether a time constant may stand in a range: none longer than 30 s does in the upper one
abbrev pub time_constant_stands : FrequencyRange → ℕ → Bool
time_constant_stands range constant = leb constant upper_constant_most || not (is_upper range)

-- §6.8: the mask of LIA bit 4, which a change of range sets
abbrev pub range_changed_bit : ℕ
range_changed_bit = 16

-- §6.8: the LIA bits of a range that was old and is new, as a mask
abbrev pub change_bits : FrequencyRange → FrequencyRange → ℕ
change_bits Upper Upper = 0
change_bits Upper Lower = range_changed_bit
change_bits Lower Upper = range_changed_bit
change_bits Lower Lower = 0

-- §6.7: the mask of LIA bit 5, which a time constant made shorter sets
abbrev pub shortened_bit : ℕ
shortened_bit = 32

-- §6.7 and §6.8: what a range does that was old and is new: a time constant that may not stand in it becomes the
-- longest that may
unfoldable pub range_effect_of : FrequencyRange → FrequencyRange → ℕ → RangeEffect
range_effect_of old new constant =
    let bits = change_bits old new in
    cond (time_constant_stands new constant) (record { constant = constant; bits = bits })
    (record { constant = upper_constant_most; bits = bits + shortened_bit })

-- §9.3: whether an external frequency is in its range, as one that is taken must be
abbrev pub frequency_in_range : ℕ → Bool
frequency_in_range f = leb frequency_low f && leb f frequency_high

-- §6.1: the external frequency at start
abbrev pub external_start : ℕ
external_start = frequency_start

-- §6.5: the frequency range at start
abbrev pub range_start : FrequencyRange
range_start = Upper
