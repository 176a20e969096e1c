-- The promise that no set value leads to refusal 11 (§12.11), proved in `proofs/Invariant.antt`. Assumes nothing.
use Rattle.std.specs.Prelude.{ℕ, ◌<◌, true, ◌≡◌, List, Some}
use Rattle.settings.specs.Table.{entries, with_value}
use Rattle.settings.specs.Setting.{setting_of}
use Rattle.settings.specs.Valid.{value_valid, values_valid}
use Rattle.settings.specs.declared.Settings.{Settings}

-- §12.11: what a text sets at an entry of the table is a value that a state may keep there
abbrev pub SettingValid : Type 0
SettingValid = (entry : ℕ) → entry < entries → (s : List ℕ) (x : ℕ) → setting_of entry s ≡ Some x →
    value_valid entry x ≡ true

-- §12.11: and settings of such values, with one more such value, are of such values
abbrev pub WithValid : Type 0
WithValid = (s : Settings) (entry x : ℕ) → values_valid s ≡ true → value_valid entry x ≡ true →
    values_valid (with_value s entry x) ≡ true
