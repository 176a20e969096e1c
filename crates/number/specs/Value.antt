-- The exact value of a number (§4.2), and what an argument's range makes of it (§4.3, §4.4, §4.5).
use Rattle.std.specs.Prelude.{ℕ, ◌+◌, ◌-◌, ◌*◌, ◌/◌, ◌%◌, ◌^◌, Bool, cond, not, ◌&&◌, ◌||◌, leb, eqb}
use Rattle.std.specs.Prelude.{List, [], ◌∷◌, length, Option, Some, None}
use Rattle.split.specs.Divide.{before, after}
use Rattle.number.specs.Number.{minus, point, letter_e, digit_zero, begins, unsigned, digits, has_exponent}
use Rattle.number.specs.declared.Range.{Range}

-- the number that has the digits ds after those of v
unfoldable pub decimal_after : ℕ → List ℕ → ℕ
decimal_after v [] = v
decimal_after v (d ∷ ds) = decimal_after (v * 10 + (d - digit_zero)) ds

-- the number that digits write
abbrev pub decimal : List ℕ → ℕ
decimal ds = decimal_after 0 ds

-- §4.2: an exact value: over divided by under, with a minus where negative
pub record Exact : Type 0 where
  pub negative : Bool
  pub over : ℕ
  pub under : ℕ

-- §4.2: the digits by which the text x after "E" moves the point to the right: none where it has a minus
abbrev pub up : List ℕ → ℕ
up x = cond (begins minus x) 0 (decimal (unsigned x))

-- §4.2: the digits by which the text x after "E" moves the point to the left: none where it has no minus
abbrev pub down : List ℕ → ℕ
down x = cond (begins minus x) (decimal (unsigned x)) 0

-- the text after "E", if there is one
abbrev pub exponent : List ℕ → List ℕ
exponent u = cond (has_exponent u) (after letter_e u) []

-- §4.2: the exact value of a number's text s, in units of 10^-decimals
unfoldable pub exact_of : ℕ → List ℕ → Exact
exact_of decimals s =
    let u = unsigned s in
    let m = before letter_e u in
    record {
      negative = begins minus s;
      over = decimal (digits m) * 10 ^ (decimals + up (exponent u));
      under = 10 ^ (length (after point m) + down (exponent u));
    }

-- §4.3: whether the exact value, not yet rounded, is in the range: low ≤ value + bias ≤ high
unfoldable pub in_range : Range → Exact → Bool
in_range r v =
    cond v.negative
    (leb (r.low * v.under + v.over) (r.bias * v.under) && leb (r.bias * v.under) (r.high * v.under + v.over))
    (leb (r.low * v.under) (r.bias * v.under + v.over) && leb (r.bias * v.under + v.over) (r.high * v.under))

-- §4.5: whether the value is whole, however it is written
abbrev pub is_whole : Exact → Bool
is_whole v = eqb (v.over % v.under) 0

-- §4.4: a divided by b, rounded: halves up, which is away from zero since a sign is apart
abbrev pub nearest : ℕ → ℕ → ℕ
nearest a b = a / b + cond (leb b (2 * (a % b))) 1 0

-- §4.4: a value without its sign, rounded to a multiple of the step
abbrev pub rounded : ℕ → Exact → ℕ
rounded step v = nearest v.over (v.under * step) * step

-- §4.3, §4.4 and §4.5: what a range makes of an argument: tested before it is rounded, its value with the bias added,
-- or None, which is refusal 2 (§12.2)
unfoldable pub argument_of : Range → Exact → Option ℕ
argument_of r v =
    cond (in_range r v && (not r.whole || is_whole v))
    (Some (cond v.negative (r.bias - rounded r.step v) (r.bias + rounded r.step v)))
    None
