-- What only inner functions are held to: what the steps of reading a number give, one definition for each function
-- inside the crate. No promise of a public call speaks of these.
use Rattle.std.specs.Prelude.{ℕ, zero, suc, ◌+◌, ◌-◌, ◌*◌, ◌^◌, Bool, true, cond, ◌&&◌, leb, eqb}
use Rattle.std.specs.Prelude.{List, [], ◌∷◌, ◌++◌, length, get_or, Option, Some, None}
use Rattle.split.specs.Divide.{before, after}
use Rattle.number.specs.Number.{point, letter_e, digit_zero, all_digits, digit_limit, is_exponent, has_exponent}
use Rattle.number.specs.Value.{decimal, Exact, up, down}
use Rattle.number.specs.Parts.{quantity_of}
use Rattle.number.specs.declared.Quantity.{Quantity}
use Rattle.number.specs.declared.text.Power.{Power}

-- the digit at an index as a number, 0 past the last one
abbrev pub digit : List ℕ → ℕ → ℕ
digit ds k = get_or ds k digit_zero - digit_zero

-- the number that n digits from the index k on write
unfoldable pub digits_value : List ℕ → ℕ → ℕ → ℕ
digits_value ds k zero = 0
digits_value ds k (suc n) = digits_value ds k n * 10 + digit ds (k + n)

-- whether all digits are "0"
unfoldable pub all_zero : List ℕ → Bool
all_zero [] = true
all_zero (d ∷ ds) = eqb d digit_zero && all_zero ds

-- one or two digits as a number; None is another text
unfoldable pub short_of : List ℕ → Option ℕ
short_of t = cond (leb 1 (length t) && (leb (length t) 2 && all_digits t)) (Some (decimal t)) None

-- the digits by which the text x after "E" moves the point; None is no power
unfoldable pub exponent_of : List ℕ → Option Power
exponent_of x = cond (is_exponent x) (Some (record { up = up x; down = down x })) None

-- the largest number of two digits
abbrev pub short_most : ℕ
short_most = 99

-- no point is moved to the right by more digits: two digits after "E", and an argument's decimals, which fit a byte
abbrev pub up_most : ℕ
up_most = 400

-- the number with digits front and back of the point, which has moved up digits to the right and down to the left
abbrev pub moved : Bool → List ℕ → List ℕ → ℕ → ℕ → Exact
moved negative front back up down =
    record { negative = negative; over = decimal (front ++ back) * 10 ^ up; under = 10 ^ (length back + down) }

-- whether bytes are digits, at least one and at most the limit
abbrev pub are_digits : List ℕ → Bool
are_digits ds = leb 1 (length ds) && (leb (length ds) digit_limit && all_digits ds)

-- the same of any bytes: no number unless they are digits, at least one and at most the limit
unfoldable pub digits_of : Bool → List ℕ → List ℕ → ℕ → ℕ → Option Quantity
digits_of negative front back up down =
    cond (are_digits (front ++ back)) (Some (quantity_of (moved negative front back up down))) None

-- a text without sign and exponent, divided at its point
unfoldable pub mantissa_of : Bool → List ℕ → ℕ → ℕ → Option Quantity
mantissa_of negative m up down = digits_of negative (before point m) (after point m) up down

-- a text without sign, the part before "E" and the exponent
unfoldable pub with_exponent : Bool → List ℕ → ℕ → Option Power → Option Quantity
with_exponent negative m decimals (Some p) = mantissa_of negative m (decimals + p.up) p.down
with_exponent negative m decimals None = None

-- a text without sign
unfoldable pub unsigned_of : Bool → List ℕ → ℕ → Option Quantity
unsigned_of negative u decimals =
    cond (has_exponent u)
    (with_exponent negative (before letter_e u) decimals (exponent_of (after letter_e u)))
    (mantissa_of negative u decimals 0)
