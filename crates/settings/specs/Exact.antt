-- The promise on a setting's text (§4.2, §4.3, §4.4, §5.3), proved in `proofs/Exact.antt`: what the code takes of it is
-- what it sets. Assumes nothing.
use Rattle.std.specs.Prelude.{ℕ, ◌≡◌, List}
use Rattle.number.specs.Value.{exact_of}
use Rattle.number.specs.Parts.{quantity_of}
use Rattle.settings.specs.Table.{row_of}
use Rattle.settings.specs.Setting.{setting_of}
use Rattle.settings.specs.Parts.{value_taken}

-- §4.2, §4.3, §4.4 and §5.3: at every entry and of every text, taking what is kept of its number gives the value, or
-- refusal 2, that the exact value gives; a step that goes by the value goes by the exact value
abbrev pub ValueExact : Type 0
ValueExact = (entry : ℕ) (s : List ℕ) →
    value_taken entry (quantity_of (exact_of (row_of entry).decimals s)) ≡ setting_of entry s
