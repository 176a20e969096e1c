-- The words for the values of the fields that have no number.
use Rattle.std.specs.Prelude.{ℕ, List}
use Rattle.split.specs.Ascii.{bytes}
use Rattle.storage.specs.declared.Phase.{Phase}
use Rattle.storage.specs.declared.Phase.TheVariants.{Reset, Running, Paused, Done}
use Rattle.settings.specs.declared.FrequencyRange.{FrequencyRange}
use Rattle.settings.specs.declared.FrequencyRange.TheVariants.{Upper, Lower}

-- the word for a phase
abbrev pub phase_word : Phase → List ℕ
phase_word Reset = bytes "reset"
phase_word Running = bytes "running"
phase_word Paused = bytes "paused"
phase_word Done = bytes "done"

-- the word for a frequency range
abbrev pub range_word : FrequencyRange → List ℕ
range_word Upper = bytes "upper"
range_word Lower = bytes "lower"
