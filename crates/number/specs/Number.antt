-- Which texts are numbers (§4.1).
use Rattle.std.specs.Prelude.{ℕ, Bool, true, false, cond, not, ◌&&◌, ◌||◌, List, [], ◌∷◌, ◌++◌, leb, ltb, eqb, length}
use Rattle.split.specs.Divide.{span, before, after}

-- the sign "+"
abbrev pub plus : ℕ
plus = 0x2B

-- the sign "-"
abbrev pub minus : ℕ
minus = 0x2D

-- the decimal point "."
abbrev pub point : ℕ
point = 0x2E

-- "E", before a power
abbrev pub letter_e : ℕ
letter_e = 0x45

-- the digit "0"
abbrev pub digit_zero : ℕ
digit_zero = 0x30

-- the digit "9"
abbrev pub digit_nine : ℕ
digit_nine = 0x39

-- whether a byte is a digit
abbrev pub is_digit : ℕ → Bool
is_digit b = leb digit_zero b && leb b digit_nine

-- whether all bytes are digits
unfoldable pub all_digits : List ℕ → Bool
all_digits [] = true
all_digits (b ∷ bs) = is_digit b && all_digits bs

-- whether a text begins with the byte b
unfoldable pub begins : ℕ → List ℕ → Bool
begins b [] = false
begins b (x ∷ xs) = eqb x b

-- §4.1: a text without the sign at its front, if it has one
unfoldable pub unsigned : List ℕ → List ℕ
unsigned [] = []
unsigned (b ∷ bs) = cond (eqb b minus) bs (cond (eqb b plus) bs (b ∷ bs))

-- §4.1: the most digits of a mantissa, zeros counted
abbrev pub digit_limit : ℕ
digit_limit = 15

-- §4.1: the digits before and after the first point
abbrev pub digits : List ℕ → List ℕ
digits m = before point m ++ after point m

-- §4.1: the mantissa, which stands before "E": one digit or more, up to the limit, and one point or none
unfoldable pub is_mantissa : List ℕ → Bool
is_mantissa m = leb 1 (length (digits m)) && (leb (length (digits m)) digit_limit && all_digits (digits m))

-- §4.1: the power, which stands after "E": a sign or none, then one digit or two
unfoldable pub is_exponent : List ℕ → Bool
is_exponent x = leb 1 (length (unsigned x)) && (leb (length (unsigned x)) 2 && all_digits (unsigned x))

-- §4.1: whether a text has a power: whether there is an "E"
abbrev pub has_exponent : List ℕ → Bool
has_exponent u = ltb (span letter_e u) (length u)

-- §4.1: a number: a sign or none, a mantissa, and where there is an "E" a power after it
unfoldable pub is_number : List ℕ → Bool
is_number s =
    (not (has_exponent (unsigned s)) || is_exponent (after letter_e (unsigned s)))
    && is_mantissa (before letter_e (unsigned s))
