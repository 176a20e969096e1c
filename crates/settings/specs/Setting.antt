-- What an argument's text sets: by its row of the table (§5.1), with the phase's turns (§5.2) and FREQ's step (§5.3).
use Rattle.std.specs.Prelude.{ℕ, ◌*◌, Bool, cond, List, ltb, eqb, Option, Some, None}
use Rattle.number.specs.Value.{Exact, exact_of, argument_of}
use Rattle.number.specs.declared.Range.{Range}
use Rattle.settings.specs.Table.{row_of, turned_of}
use Rattle.settings.specs.Frequency.{step_by, frequency_step}
use Rattle.settings.specs.declared.Row.{Row}

-- §5.1 and §5.3: a row's step: its own, or the one that the value has
abbrev pub step_with : Row → ℕ → ℕ
step_with row byValue = cond row.scales byValue row.step

-- §4.5 and §5.1: a row's range; where it has no decimals the argument is to be a whole number
abbrev pub range_with : Row → ℕ → Range
range_with row step =
    record { bias = row.bias; low = row.low; high = row.high; step = step; whole = eqb row.decimals 0 }

-- §5.3: the step that goes by the value goes by the exact value, before it is rounded
abbrev pub exact_step : Exact → ℕ
exact_step v = step_by (λ k. ltb v.over (k * v.under))

-- §5.2: what is kept of an argument once it is rounded: where the row turns, the phase by whole turns
unfoldable pub turned_at : Bool → Option ℕ → Option ℕ
turned_at turns None = None
turned_at turns (Some x) = Some (cond turns (turned_of x) x)

-- §5.1: what the text s of a number sets at an entry: the value kept, or None, which is refusal 2
-- (§3.7)
unfoldable pub setting_of : ℕ → List ℕ → Option ℕ
setting_of entry s =
    let row = row_of entry in
    let v = exact_of row.decimals s in
    turned_at row.turns (argument_of (range_with row (step_with row (exact_step v))) v)

-- §5.1 and §5.3: an entry's step for a value by its whole units
unfoldable pub step_of : ℕ → ℕ → ℕ
step_of entry whole = step_with (row_of entry) (frequency_step whole)
