-- The settings that a valid state may have (§12.11): each value in its range and on its step, and the limits.
use Rattle.std.specs.Prelude.{ℕ, zero, suc, ◌%◌, Bool, true, ◌&&◌, leb, eqb}
use Rattle.settings.specs.Table.{entries, oflt, row_of, value_of}
use Rattle.settings.specs.Frequency.{detection_of, within_limit, range_stands, time_constant_stands}
use Rattle.settings.specs.Frequency.{frequency_in_range}
use Rattle.settings.specs.Setting.{step_of}
use Rattle.settings.specs.declared.Settings.{Settings}
use Rattle.settings.specs.declared.FrequencyRange.{FrequencyRange}

-- §12.11: a value in its entry's range and on its step (where the step is not 1 the bias is 0)
unfoldable pub value_valid : ℕ → ℕ → Bool
value_valid entry x = leb (row_of entry).least x && (leb x (row_of entry).most && eqb (x % step_of entry x) 0)

-- the test holds of every number below n
unfoldable pub every : (ℕ → Bool) → ℕ → Bool
every test zero = true
every test (suc n) = every test n && test n

-- §12.11: every value may be kept
unfoldable pub values_valid : Settings → Bool
values_valid s = every (λ entry. value_valid entry (value_of s entry)) entries

-- §12.11: settings that a state may have: with the limits on the external frequency (§9.3), on the detection frequency
-- (§6.3), on the frequency range (§6.5) and on the time constant (§6.6)
unfoldable pub valid_settings : Settings → ℕ → FrequencyRange → Bool
valid_settings s external range =
    let detection = detection_of s external in
    values_valid s
    && (frequency_in_range external
    && (within_limit detection && (range_stands detection range && time_constant_stands range (value_of s oflt))))
