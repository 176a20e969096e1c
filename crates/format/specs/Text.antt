-- What a reply's text says: numbers (§4.6), and the digits of the serial number (§11.1).
use Rattle.std.specs.Prelude.{ℕ, zero, suc, ◌+◌, ◌-◌, ◌/◌, ◌%◌, ◌^◌, cond, List, [], ◌∷◌, ◌++◌, ltb, eqb}
use Rattle.split.specs.Ascii.{comma}
use Rattle.number.specs.Number.{minus, point, digit_zero}

-- §4.6 and §11.1: the last digits of n, as many as the width says, zeros in front where it has fewer: decimals, or the
-- five digits of the serial number
unfoldable pub padded : ℕ → ℕ → List ℕ
padded zero n = []
padded (suc k) n = (digit_zero + n / 10 ^ k % 10) ∷ padded k n

-- how many digits n has: one below ten, else one more than its tenth part has. It takes m steps at most, and n of them
-- are enough
unfoldable pub digit_count_in : ℕ → ℕ → ℕ
digit_count_in zero n = 1
digit_count_in (suc m) n =
    let more = suc (digit_count_in m (n / 10)) in
    cond (ltb n 10) 1 more

-- how many digits n has
abbrev pub digit_count : ℕ → ℕ
digit_count n = digit_count_in n n

-- §4.6: a whole number: as many digits as n has, so no zero in front, and "0" for zero
unfoldable pub plain : ℕ → List ℕ
plain n = padded (digit_count n) n

-- §4.6: n in units of 10^-decimals: its whole part, and where there are decimals a point and exactly that many digits
unfoldable pub fixed : ℕ → ℕ → List ℕ
fixed decimals n =
    plain (n / 10 ^ decimals) ++ cond (eqb decimals 0) [] (point ∷ padded decimals n)

-- §4.6: a minus below zero, and nothing else: v has the bias added, so zero is the bias itself
unfoldable pub sign : ℕ → ℕ → List ℕ
sign bias v = cond (ltb v bias) (minus ∷ []) []

-- how far v, which has the bias added, is from zero
abbrev pub distance : ℕ → ℕ → ℕ
distance bias v = (v - bias) + (bias - v)

-- §4.6: the text of v, which has the bias added: its sign, then how far it is from zero
unfoldable pub signed_text : ℕ → ℕ → ℕ → List ℕ
signed_text decimals bias v = sign bias v ++ fixed decimals (distance bias v)

-- §4.6: a further value of the same reply, a comma before it
abbrev pub next : ℕ → ℕ → ℕ → List ℕ
next decimals bias v = comma ∷ signed_text decimals bias v
