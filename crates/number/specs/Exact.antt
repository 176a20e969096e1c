-- The promise on numbers (§4.2, §4.3, §4.4, §4.5), once over every range and every step, proved in `proofs/Exact.antt`:
-- the code reads a number as a quantity, and a range makes of it what it makes of the exact value. Assumes nothing.
use Rattle.std.specs.Prelude.{ℕ, ◌+◌, ◌<◌, ◌≡◌, List}
use Rattle.number.specs.Value.{Exact, exact_of, argument_of}
use Rattle.number.specs.Parts.{quantity_of, taken_of}
use Rattle.number.specs.declared.Range.{Range}

-- a range whose values fit 32 bits, also once they are rounded
abbrev pub Small : Range → Type 0
Small r = r.bias + r.high + r.step < 0x1_0000_0000

-- §4.3, §4.4 and §4.5: a value that is over divided by under, under not 0: its quantity is taken as the value itself,
-- by the range before rounding, by the test for a whole number, and by rounding with halves away from zero
abbrev pub TakenExact : Type 0
TakenExact = (v : Exact) → 0 < v.under → (r : Range) → Small r → taken_of r (quantity_of v) ≡ argument_of r v

-- §4.2: every text's value is of that kind
abbrev pub UnderSome : Type 0
UnderSome = (decimals : ℕ) (s : List ℕ) → 0 < (exact_of decimals s).under
