-- Numbers are read and written exactly (§4.2, §4.6): what a reply says of a value that a setting may have sets that
-- value again (§4.7).
use Rattle.std.specs.Prelude.{ℕ, ◌≡◌, true, List, Some}
use Rattle.number.specs.Number.{is_number}
use Rattle.settings.specs.Table.{row_of}
use Rattle.settings.specs.Setting.{setting_of}
use Rattle.settings.specs.Valid.{value_valid}
use Rattle.format.specs.Text.{signed_text}

-- §4.6: the text of v at an entry, which has the entry's bias added
abbrev pub written : ℕ → ℕ → List ℕ
written entry v = signed_text (row_of entry).decimals (row_of entry).bias v

-- §4.7: the text of a value is a number (§4.1), and sets the same value
pub record SetsAgain (entry v : ℕ) : Type 0 where
  pub number : is_number (written entry v) ≡ true
  pub value : setting_of entry (written entry v) ≡ Some v

-- §4.7: this holds of every entry and every value that the entry may have
abbrev pub WrittenAgain : Type 0
WrittenAgain = (entry v : ℕ) → value_valid entry v ≡ true → SetsAgain entry v

-- §4.7: so no two values have the same text
abbrev pub WrittenApart : Type 0
WrittenApart =
    (entry v w : ℕ) → value_valid entry v ≡ true → value_valid entry w ≡ true →
    written entry v ≡ written entry w → v ≡ w
