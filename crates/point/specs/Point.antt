-- A point of a trace as a 32-bit word: its parts, which words are legal (§7.1), and the single that TRCB sends for one
-- (§8.2). Assumes nothing.
use Rattle.std.specs.Prelude.{ℕ, ◌+◌, ◌-◌, ◌*◌, ◌/◌, ◌%◌, ◌^◌, Bool, cond, ◌&&◌, leb, eqb}
use Rattle.std.specs.Int.Count.{count_leading_zeros}
use Rattle.point.specs.Single.{pattern}

-- §7.1: the largest magnitude of m: 2^15, that of the lowest number of 16 bits
abbrev pub magnitude_most : ℕ
magnitude_most = 0x8000

-- §7.1: point (a term of document 01): a word that stands for m * 2^(e - 124); m is its low 16 bits in two's
-- complement, negative where their highest bit is set
abbrev pub is_negative : ℕ → Bool
is_negative w = leb 0x8000 (w % 0x1_0000)

-- §7.1: m without its sign
unfoldable pub magnitude_of : ℕ → ℕ
magnitude_of w = cond (is_negative w) (0x1_0000 - w % 0x1_0000) (w % 0x1_0000)

-- §7.1: the exponent e, the third byte
abbrev pub exponent_byte : ℕ → ℕ
exponent_byte w = w / 0x1_0000 % 0x100

-- §7.1: the top byte, 0 in a legal point
abbrev pub top_byte : ℕ → ℕ
top_byte w = w / 0x100_0000

-- §7.1: a legal point's exponent is at most this
abbrev pub exponent_most : ℕ
exponent_most = 236

-- §7.1: whether a word is a legal point (a term of document 01): top byte 0, exponent at most 236
unfoldable pub is_legal : ℕ → Bool
is_legal w = eqb (top_byte w) 0 && leb (exponent_byte w) exponent_most

-- the number of the highest set bit of a, from 0, by its leading zeros
unfoldable pub highest : ℕ → ℕ
highest a = 31 - count_leading_zeros 32 a

-- §8.2: the single of a * 2^(e - 124), a not 0. Its highest bit has the weight 2^(highest + e - 124), and the exponent
-- field is that power with 127 added; the fraction field is the other bits of a, moved up so that they fill 23 bits.
unfoldable pub single_of : Bool → ℕ → ℕ → ℕ
single_of s a e = pattern s (highest a + e + 3) (a * 2 ^ (23 - highest a) - 2 ^ 23)

-- §8.2: what is sent for a word that is not legal: 00 00 C0 7F, a NaN
abbrev pub no_point : ℕ
no_point = 0x7FC0_0000

-- §8.2: the single that TRCB sends for a word: the point's value, +0 for m = 0
unfoldable pub float_of : ℕ → ℕ
float_of w =
    cond (is_legal w)
    (cond (eqb (magnitude_of w) 0) 0 (single_of (is_negative w) (magnitude_of w) (exponent_byte w)))
    no_point
