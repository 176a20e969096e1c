-- A byte's bits, which §10.1, §10.2, §10.3 and §10.5 speak of: bit i has the weight 2 ^ i. The union of two bytes' bits
-- is `bit_or` of lib.Bits, the bits that they have in common `bit_and`. Assumes nothing.
use Rattle.std.specs.Prelude.{ℕ, ◌-◌, ◌*◌, ◌/◌, ◌%◌, ◌^◌, ◌≤◌, ◌<◌, min, max, eqb, ltb}
use Rattle.std.specs.Prelude.{Bool, true, false, cond, not, ◌≡◌}
use Rattle.std.specs.Int.Bits.{bit_and, bit_or}

-- bit i of x, 0 or 1
unfoldable pub bit_of : ℕ → ℕ → ℕ
bit_of x i = x / 2 ^ i % 2

-- x with bit i cleared: less its weight where it is set
unfoldable pub without_bit : ℕ → ℕ → ℕ
without_bit x i = x - bit_of x i * 2 ^ i

-- how many bits a byte has
abbrev pub byte_bits : ℕ
byte_bits = 8

-- the byte x with bit i cleared where the value is 0, else set; there is no bit past 7
unfoldable pub with_bit : ℕ → ℕ → ℕ → ℕ
with_bit x i value = cond (ltb i byte_bits) (cond (eqb value 0) (without_bit x i) (bit_or x (2 ^ i))) x

-- whether some bit is set in both
unfoldable pub meets : ℕ → ℕ → Bool
meets x y = not (eqb (bit_and x y) 0)

-- whether no bit of x is set but bits of the mask
abbrev pub only : ℕ → ℕ → Bool
only mask x = eqb (bit_and x mask) x

-- the weight of bit i where the test holds, else 0
unfoldable pub flag : Bool → ℕ → ℕ
flag test i = cond test (2 ^ i) 0

-- The promise that these are said of a byte's bits one by one, proved in `proofs/Bits.antt`.
pub record BitByBit : Type 0 where
  -- a bit is 0 or 1, a byte has none past bit 7, and two numbers of the same bits are one
  pub below : (x i : ℕ) → bit_of x i < 2
  pub past : (x i : ℕ) → x < 2 ^ byte_bits → byte_bits ≤ i → bit_of x i ≡ 0
  pub same : (x y : ℕ) → ((i : ℕ) → bit_of x i ≡ bit_of y i) → x ≡ y
  -- in the union a bit is set where it is in one of the two, in what they have in common where it is in both
  pub union : (x y i : ℕ) → bit_of (bit_or x y) i ≡ max (bit_of x i) (bit_of y i)
  pub common : (x y i : ℕ) → bit_of (bit_and x y) i ≡ min (bit_of x i) (bit_of y i)
  -- the weight of bit i has that bit and no other
  pub weight : (i : ℕ) → bit_of (2 ^ i) i ≡ 1
  pub weight-other : (i j : ℕ) → (i ≡ j → ⊥) → bit_of (2 ^ i) j ≡ 0
  -- a bit cleared is 0, and every other is as it was
  pub cleared : (x i : ℕ) → bit_of (without_bit x i) i ≡ 0
  pub cleared-other : (x i j : ℕ) → (i ≡ j → ⊥) → bit_of (without_bit x i) j ≡ bit_of x j
  -- a bit of a byte that is given a value is 0 for the value 0, else 1, and every other is as it was
  pub given_none : (x i : ℕ) → i < byte_bits → bit_of (with_bit x i 0) i ≡ 0
  pub given_some : (x i value : ℕ) → i < byte_bits → (value ≡ 0 → ⊥) → bit_of (with_bit x i value) i ≡ 1
  pub given_other : (x i value j : ℕ) → (i ≡ j → ⊥) → bit_of (with_bit x i value) j ≡ bit_of x j
  -- two bytes do not meet exactly where no bit is set in both
  pub apart : (x y : ℕ) → meets x y ≡ false → (i : ℕ) → min (bit_of x i) (bit_of y i) ≡ 0
  pub not_met : (x y : ℕ) → ((i : ℕ) → min (bit_of x i) (bit_of y i) ≡ 0) → meets x y ≡ false
  -- x has only bits of the mask exactly where none is set that the mask has not
  pub within : (mask x : ℕ) → only mask x ≡ true → (i : ℕ) → bit_of x i ≤ bit_of mask i
  pub only_those : (mask x : ℕ) → ((i : ℕ) → bit_of x i ≤ bit_of mask i) → only mask x ≡ true
