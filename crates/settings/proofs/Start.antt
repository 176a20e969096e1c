-- Rules of the whole table, each one test that computes. Assumes nothing.
use mathlib.Core.Path.{◌≡◌, refl}
use mathlib.Core.Bool.{Bool, true, ◌&&◌}
use mathlib.Core.List.{[], ◌∷◌, map}
use lib.Dec.{leb}
use lib.ListN.{length}
use Rattle.settings.specs.Table.{entries, table, row_of, start_settings, value_of, whole_row, phase, frequency, level}
use Rattle.settings.specs.Table.{phas, fmod, freq, harm, slvl, oflt, srat, send, tstr}
use Rattle.settings.specs.Frequency.{step_by, in_force, detection_of, external_start, range_start}
use Rattle.settings.specs.Setting.{step_of}
use Rattle.settings.specs.Valid.{value_valid, every, values_valid, valid_settings}
use Rattle.settings.specs.declared.Row.{Row}

-- a fresh module's settings are valid: every start in its range and on its step
pub start-valid : valid_settings start_settings external_start range_start ≡ true
unfolding table row_of start_settings step_by in_force detection_of step_of value_valid every values_valid valid_settings
start-valid = refl

-- the external frequency starts where FREQ does, at 1000 Hz
pub external-start : external_start ≡ value_of start_settings freq
unfolding table start_settings
external-start = refl

-- the entries are those of the table
pub entries-counted : entries ≡ length table
unfolding table
entries-counted = refl

-- arguments can be taken, and what a state keeps is among them
abbrev ordered : Row → Bool
ordered r = leb r.low r.least && (leb r.least r.most && leb r.most r.high)

-- every row is so
pub rows_ordered : every (λ entry. ordered (row_of entry)) entries ≡ true
unfolding table row_of every
rows_ordered = refl

-- the entries that rules name have the rows of their settings
pub entries-named :
    map row_of (phas ∷ fmod ∷ freq ∷ harm ∷ slvl ∷ oflt ∷ srat ∷ send ∷ tstr ∷ [])
    ≡ phase ∷ whole_row 0 1 1 ∷ frequency ∷ whole_row 1 19999 1 ∷ level ∷ whole_row 0 19 8 ∷ whole_row 0 14 4 ∷ whole_row 0 1
    1
    ∷ whole_row 0 1 0 ∷ []
unfolding table row_of
entries-named = refl
