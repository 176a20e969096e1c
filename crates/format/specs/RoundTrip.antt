-- The promise on replies' numbers (§4.7), once over the decimals, proved in `proofs/RoundTrip.antt`: what is written,
-- read again, is the same value. Assumes nothing.
use Rattle.std.specs.Prelude.{ℕ, ◌^◌, ◌<◌, Bool, true, false, ◌≡◌, ltb, Option, Some}
use Rattle.number.specs.Number.{digit_limit}
use Rattle.number.specs.Parts.{read_of}
use Rattle.number.specs.declared.Quantity.{Quantity}
use Rattle.format.specs.Text.{distance, signed_text}

-- a number that is read as n, with nothing left over
abbrev pub exactly : Bool → ℕ → Option Quantity
exactly negative n = Some (record { negative = negative; whole = n; half = false; exact = true })

-- §4.7: the text of v, which has the bias added, read in the same units, is the distance of v and the bias, below zero
-- where v is below the bias. The decimals are fewer than the digits of a number, since one is before the point
abbrev pub ReadAgain : Type 0
ReadAgain = (decimals bias v : ℕ) → decimals < digit_limit → bias < 2 ^ 32 → v < 2 ^ 32 →
    read_of decimals (signed_text decimals bias v) ≡ exactly (ltb v bias) (distance bias v)
