-- What only inner functions are held to: what an entry takes of a number by what is kept of it, its whole units among
-- it. Exact says that this is what the number's text sets. No promise of a public call speaks of these.
use Rattle.std.specs.Prelude.{ℕ, Option}
use Rattle.number.specs.Parts.{taken_of}
use Rattle.number.specs.declared.Range.{Range}
use Rattle.number.specs.declared.Quantity.{Quantity}
use Rattle.settings.specs.Table.{row_of}
use Rattle.settings.specs.Frequency.{frequency_step}
use Rattle.settings.specs.Setting.{step_with, range_with, turned_at}
use Rattle.settings.specs.declared.Row.{Row}

-- §5.3: a row's range for a number by its whole units
unfoldable pub range_of : Row → ℕ → Range
range_of row whole = range_with row (step_with row (frequency_step whole))

-- §5.1: what an entry takes of a number: the value kept, or None, which is refusal 2
unfoldable pub value_taken : ℕ → Quantity → Option ℕ
value_taken entry q = let row = row_of entry in turned_at row.turns (taken_of (range_of row q.whole) q)
