-- What only inner functions are held to: the quantity of a number, between reading and taking. Exact says that it is
-- enough to test any range and to round to any step. No promise of a public call speaks of these.
use Rattle.std.specs.Prelude.{ℕ, ◌+◌, ◌-◌, ◌*◌, ◌/◌, ◌%◌, min, Bool, cond, not, ◌&&◌, ◌||◌, List, leb, ltb, eqb}
use Rattle.std.specs.Prelude.{Option, Some, None}
use Rattle.number.specs.Number.{is_number}
use Rattle.number.specs.Value.{Exact, exact_of}
use Rattle.number.specs.declared.Quantity.{Quantity}
use Rattle.number.specs.declared.Range.{Range}

-- a whole part past the high end of every range, 2^40; a larger one counts as this
abbrev pub cap : ℕ
cap = 0x100_0000_0000

-- the largest number of 32 bits
abbrev pub largest : ℕ
largest = 0xFFFF_FFFF

-- the quantity of an exact value
abbrev pub quantity_of : Exact → Quantity
quantity_of v =
    record {
      negative = v.negative;
      whole = min cap (v.over / v.under);
      half = leb v.under (2 * (v.over % v.under));
      exact = eqb (v.over % v.under) 0;
    }

-- a text as a number, in units of 10^-decimals; None is no number
unfoldable pub read_of : ℕ → List ℕ → Option Quantity
read_of decimals s = cond (is_number s) (Some (quantity_of (exact_of decimals s))) None

-- §4.3: low ≤ value + bias ≤ high; a part after the point counts as one on the side where it can break the test
unfoldable pub fits_range : Range → Quantity → Bool
fits_range r q =
    cond q.negative
    (leb (r.low + q.whole + 1) (r.bias + cond q.exact 1 0) && leb r.bias (r.high + q.whole))
    (leb r.low (r.bias + q.whole) && leb (r.bias + q.whole + 1) (r.high + cond q.exact 1 0))

-- §4.4: the multiple of the step nearest to a quantity without its sign, halves up
unfoldable pub rounded_to : ℕ → Quantity → ℕ
rounded_to step q =
    (q.whole / step + cond (leb step (2 * (q.whole % step) + cond q.half 1 0)) 1 0) * step

-- a quantity rounded to the range's step, bias added
unfoldable pub placed_in : Range → Quantity → ℕ
placed_in r q = cond q.negative (r.bias - rounded_to r.step q) (r.bias + rounded_to r.step q)

-- the same, refused where it does not fit 32 bits
unfoldable pub value_in : Range → Quantity → Option ℕ
value_in r q = cond (ltb largest (placed_in r q)) None (Some (placed_in r q))

-- §4.3, §4.4 and §4.5: what a range makes of a quantity: its value, or None, which is refusal 2
unfoldable pub taken_of : Range → Quantity → Option ℕ
taken_of r q = cond (ltb q.whole cap && (fits_range r q && (not r.whole || q.exact))) (value_in r q) None
