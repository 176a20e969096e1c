-- IEEE 754's single (binary32), the float of §8.1: the three fields of a pattern of 32 bits, and the pattern that has
-- given fields. Assumes nothing.
use Rattle.std.specs.Prelude.{ℕ, ◌+◌, ◌*◌, ◌/◌, ◌%◌, ◌^◌, Bool, cond, leb}

-- From the top: one sign bit S (set in a negative number), 8 bits of exponent field E, 23 bits of fraction field F.
-- With E from 1 to 254 it is the normal number (-1)^S * 2^(E - 127) * (1 + F * 2^-23), that is
-- (-1)^S * (2^23 + F) * 2^(E - 150).

-- S: whether the number is negative
unfoldable pub sign_field : ℕ → Bool
sign_field x = leb (2 ^ 31) x

-- E
unfoldable pub exponent_field : ℕ → ℕ
exponent_field x = x / 2 ^ 23 % 2 ^ 8

-- F
unfoldable pub fraction_field : ℕ → ℕ
fraction_field x = x % 2 ^ 23

-- the pattern with these fields
unfoldable pub pattern : Bool → ℕ → ℕ → ℕ
pattern s e f = cond s (2 ^ 31) 0 + (e * 2 ^ 23 + f)
