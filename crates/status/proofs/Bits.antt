-- What the definitions of a byte's bits mean, bit by bit. Assumes nothing.
use Prim.Native.Nat.{ℕ, zero, suc, ◌+◌, ◌*◌, ◌/◌, ◌%◌, ◌^◌, ◌≤◌, ◌<◌, min, max}
use native.Mathlib.Nat.{le_trans, mod-le, mul-le-mul_right, mul_assoc, one-mul, div-eq_of_lt, div-mul-le_self, div_self, div-div-eq-div-mul, lt_of_lt_of_le, pow-succ', pow-suc}
use native.Mathlib.Omega.{arith}
use mathlib.Core.Bool.{true, false}
use mathlib.Core.Path.{◌≡◌, refl, sym, ap, ap₂, ◌∙◌}
use lib.Arith.{bin_ind, digits_mod}
use lib.Bits.{bit_and, bit_or, and_step, or_step, and_shr, or_shr}
use lib.Dec.{eqb, ltb}
use lib.Pow.{pow_mono, pow_pos, shl_exact}
use borrow.Author.Tests.{lt-ltb, eq-eqb, ne_eqb, eqb-true, not-false}
use Rattle.laws.proofs.Tests.{cond_by}
use Rattle.status.specs.Bits.{bit_of, without_bit, with_bit, meets, only, BitByBit}

-- ---- one bit

pub bit_lt : (x i : ℕ) → bit_of x i < 2
unfolding bit_of
bit_lt x i = omega arith

-- a byte has no bit past 7
pub past : (x i : ℕ) → x < 256 → 8 ≤ i → bit_of x i ≡ 0
unfolding bit_of
past x i h l = ap (λ (q : ℕ). q % 2) (div-eq_of_lt (lt_of_lt_of_le h (pow_mono l)))

-- a set bit's weight is part of the number
pub weight_le : (x i : ℕ) → bit_of x i * 2 ^ i ≤ x
unfolding bit_of
weight_le x i = le_trans (mul-le-mul_right (2 ^ i) (mod-le (x / 2 ^ i) 2)) (div-mul-le_self x (2 ^ i))

pub bit-zero : (x : ℕ) → bit_of x 0 ≡ x % 2
unfolding bit_of
bit-zero x = omega arith

pub bit-suc : (x i : ℕ) → bit_of x (suc i) ≡ bit_of (x / 2) i
unfolding bit_of
bit-suc x i = rw (pow-succ', ← div-div-eq-div-mul)

-- the weight of a byte's bit fits a byte
pub weight-fits : (i : ℕ) → i < 8 → 1 * 2 ^ i % 256 ≡ 2 ^ i
weight-fits i h = shl_exact {a = 1} 1 i 8 (omega arith) (omega arith) ∙ one-mul (2 ^ i)

-- no bit is set in 0, and a number without bits is 0
pub bit-none : (i : ℕ) → bit_of 0 i ≡ 0
bit-none zero = bit-zero 0
bit-none (suc i) = bit-suc 0 i ∙ bit-none i

pub none-set : (x : ℕ) → ((i : ℕ) → bit_of x i ≡ 0) → x ≡ 0
none-set =
    bin_ind (λ (n : ℕ). ((i : ℕ) → bit_of n i ≡ 0) → n ≡ 0) (λ h. refl)
    (λ n ih h. omega (arith, ih (λ i. sym (bit-suc n i) ∙ h (suc i)), bit-zero n, h 0))

-- two numbers of the same bits are one
same_bits : (x y : ℕ) → ((i : ℕ) → bit_of x i ≡ bit_of y i) → x ≡ y
same_bits =
    bin_ind (λ (n : ℕ). (y : ℕ) → ((i : ℕ) → bit_of n i ≡ bit_of y i) → n ≡ y)
    (λ y h. sym (none-set y (λ i. sym (h i) ∙ bit-none i)))
    (λ n ih y h. omega (arith, ih (y / 2) (λ i. sym (bit-suc n i) ∙ h (suc i) ∙ bit-suc y i), bit-zero n, bit-zero y, h 0))

-- ---- bit by bit

-- union: set where one of the two is
pub bit-or : (x y i : ℕ) → bit_of (bit_or x y) i ≡ max (bit_of x i) (bit_of y i)
unfolding bit_of
bit-or x y i = rw (or_shr, or_step) (digits_mod (bit_or (x / 2 ^ i / 2) (y / 2 ^ i / 2)) (omega arith))

-- in common: set where both are
pub bit-and : (x y i : ℕ) → bit_of (bit_and x y) i ≡ min (bit_of x i) (bit_of y i)
unfolding bit_of
bit-and x y i = rw (and_shr, and_step) (digits_mod (bit_and (x / 2 ^ i / 2) (y / 2 ^ i / 2)) (omega arith))

-- two numbers have no bit in common exactly where none is set in both
pub apart_bits : (x m : ℕ) → bit_and x m ≡ 0 → (i : ℕ) → min (bit_of x i) (bit_of m i) ≡ 0
apart_bits x m h i = sym (bit-and x m i) ∙ ap (λ (n : ℕ). bit_of n i) h ∙ bit-none i

pub bits_apart : (x m : ℕ) → ((i : ℕ) → min (bit_of x i) (bit_of m i) ≡ 0) → bit_and x m ≡ 0
bits_apart x m h = none-set (bit_and x m) (λ i. bit-and x m i ∙ h i)

-- the tests of two numbers and of a mask
pub met_none : (x m : ℕ) → meets x m ≡ false → bit_and x m ≡ 0
unfolding meets
met_none x m h = eqb-true (bit_and x m) 0 (not-false (eqb (bit_and x m) 0) h)

pub meets-none : (x m : ℕ) → bit_and x m ≡ 0 → meets x m ≡ false
unfolding meets
meets-none x m h = rw (eq-eqb (bit_and x m) 0 h)

pub only_le : (mask x : ℕ) → only mask x ≡ true → (i : ℕ) → bit_of x i ≤ bit_of mask i
only_le mask x h i = omega (arith, bit-and x mask i, ap (λ (n : ℕ). bit_of n i) (eqb-true (bit_and x mask) x h))

le_only : (mask x : ℕ) → ((i : ℕ) → bit_of x i ≤ bit_of mask i) → only mask x ≡ true
le_only mask x h = eq-eqb (bit_and x mask) x (same_bits (bit_and x mask) x (λ i. omega (arith, bit-and x mask i, h i)))

-- the weight of bit i has that bit and no other
pub power_here : (i : ℕ) → bit_of (2 ^ i) i ≡ 1
unfolding bit_of
power_here i = ap (λ (q : ℕ). q % 2) (div_self (pow_pos i))

power_half : (i : ℕ) → 2 ^ suc i / 2 ≡ 2 ^ i
power_half i = omega (arith, pow-suc 2 i)

pub power_other : (i j : ℕ) → (i ≡ j → ⊥) → bit_of (2 ^ i) j ≡ 0
power_other zero zero d = absurd (d refl)
power_other zero (suc j) d = bit-suc 1 j ∙ bit-none j
power_other (suc i) zero d = bit-zero (2 ^ suc i) ∙ omega (arith, pow-suc 2 i)
power_other (suc i) (suc j) d = bit-suc (2 ^ suc i) j ∙ rw power_half (power_other i j (λ e. d (ap suc e)))

-- ---- a bit cleared

without_zero : (x : ℕ) → without_bit x 0 ≡ x / 2 * 2
unfolding without_bit bit_of
without_zero x = omega arith

without_suc : (x i : ℕ) → without_bit x (suc i) ≡ without_bit (x / 2) i * 2 + x % 2
unfolding without_bit
without_suc x i =
    let part : bit_of x (suc i) * 2 ^ suc i ≡ bit_of (x / 2) i * 2 ^ i * 2 =
    ap₂ (λ (b p : ℕ). b * p) (bit-suc x i) (pow-suc 2 i) ∙ sym (mul_assoc (bit_of (x / 2) i) (2 ^ i) 2) in
    rw part (omega (arith, weight_le (x / 2) i))

without_half : (x i : ℕ) → without_bit x (suc i) / 2 ≡ without_bit (x / 2) i
without_half x i = omega (arith, without_suc x i)

-- bit i of `without_bit x i` is 0,
pub without_here : (x i : ℕ) → bit_of (without_bit x i) i ≡ 0
without_here x zero = bit-zero (without_bit x 0) ∙ omega (arith, without_zero x)
without_here x (suc i) = bit-suc (without_bit x (suc i)) i ∙ rw without_half (without_here (x / 2) i)

-- and every other bit is that of x
pub without_other : (x i j : ℕ) → (i ≡ j → ⊥) → bit_of (without_bit x i) j ≡ bit_of x j
without_other x zero zero d = absurd (d refl)
without_other x zero (suc j) d =
    let half : without_bit x 0 / 2 ≡ x / 2 = omega (arith, without_zero x) in
    bit-suc (without_bit x 0) j ∙ rw half (sym (bit-suc x j))
without_other x (suc i) zero d = bit-zero (without_bit x (suc i)) ∙ omega (arith, without_suc x i, bit-zero x)
without_other x (suc i) (suc j) d =
    bit-suc (without_bit x (suc i)) j
    ∙ rw without_half (without_other (x / 2) i j (λ e. d (ap suc e)))
    ∙ sym (bit-suc x j)

-- ---- a bit set or cleared

pub with-zero : (x i : ℕ) → i < 8 → bit_of (with_bit x i 0) i ≡ 0
unfolding with_bit
with-zero x i h = rw (lt-ltb i 8 h) (without_here x i)

pub with-one : (x i value : ℕ) → i < 8 → (value ≡ 0 → ⊥) → bit_of (with_bit x i value) i ≡ 1
unfolding with_bit
with-one x i value h n = rw (lt-ltb i 8 h, ne_eqb value 0 n) (bit-or x (2 ^ i) i ∙ omega (arith, bit_lt x i, power_here i))

pub with-other : (x i value j : ℕ) → (i ≡ j → ⊥) → bit_of (with_bit x i value) j ≡ bit_of x j
unfolding with_bit
with-other x i value j d =
    cond_by (λ y. bit_of y j ≡ bit_of x j) (ltb i 8)
    (λ small. cond_by (λ y. bit_of y j ≡ bit_of x j) (eqb value 0) (λ none. without_other x i j d)
    (λ some. bit-or x (2 ^ i) j ∙ omega (arith, power_other i j d)))
    (λ large. refl)

-- ---- the promise

pub bit_by_bit : BitByBit
bit_by_bit =
    record {
      below = bit_lt;
      past = past;
      same = same_bits;
      union = bit-or;
      common = bit-and;
      weight = power_here;
      weight-other = power_other;
      cleared = without_here;
      cleared-other = without_other;
      given_none = with-zero;
      given_some = with-one;
      given_other = with-other;
      apart = λ x y h. apart_bits x y (met_none x y h);
      not_met = λ x y h. meets-none x y (bits_apart x y h);
      within = only_le;
      only_those = le_only;
    }
