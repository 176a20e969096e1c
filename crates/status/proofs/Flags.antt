-- The status byte bit by bit, and the bounds of its parts. Assumes nothing.
use Prim.Native.Nat.{ℕ, zero, suc, ◌+◌, ◌*◌, ◌/◌, ◌^◌, ◌≤◌, ◌<◌, zero-le}
use native.Mathlib.Nat.{le_refl, one-mul, zero-mul}
use native.Mathlib.Omega.{arith}
use mathlib.Core.Bool.{Bool, true, false}
use mathlib.Core.List.{List, [], ◌∷◌}
use mathlib.Core.Path.{◌≡◌, sym, ap, ◌∙◌}
use lib.ListN.{get_or}
use Rattle.status.specs.Bits.{bit_of, meets, flag}
use Rattle.status.specs.Status.{other_bits, status_byte}
use Rattle.status.specs.Flags.{tests, bit_of_test, StatusBits}
use Rattle.status.specs.declared.Registers.{Registers}
use Rattle.status.specs.declared.Enables.{Enables}
use Rattle.status.specs.declared.Poll.{Poll}
use Rattle.status.proofs.Bits.{bit-none, bit-zero, bit-suc}

pub flag_le : (t : Bool) (i : ℕ) → flag t i ≤ 2 ^ i
unfolding flag
flag_le true i = le_refl (2 ^ i)
flag_le false i = zero-le

pub other_lt : (r : Registers) (e : Enables) (p : Poll) → other_bits r e p < 64
unfolding other_bits
other_lt r e p =
    omega (
      arith,
      flag_le p.at_rest 0,
      flag_le p.idle 1,
      flag_le (meets r.errors e.errors) 2,
      flag_le (meets r.lia e.lia) 3,
      flag_le p.waiting 4,
      flag_le (meets r.standard e.standard) 5,
    )

-- the number that bits make, bit 0 first
abbrev packed : List Bool → ℕ
packed [] = 0
packed (t ∷ ts) = bit_of_test t + packed ts * 2

digit_lt : (t : Bool) → bit_of_test t < 2
digit_lt true = omega arith
digit_lt false = omega arith

flag-digit : (t : Bool) (i : ℕ) → flag t i ≡ bit_of_test t * 2 ^ i
unfolding flag
flag-digit true i = sym (one-mul (2 ^ i))
flag-digit false i = sym (zero-mul (2 ^ i))

packed-bit : (ts : List Bool) (i : ℕ) → bit_of (packed ts) i ≡ bit_of_test (get_or ts i false)
packed-bit [] i = bit-none i
packed-bit (t ∷ ts) zero = bit-zero (packed (t ∷ ts)) ∙ omega (arith, digit_lt t)
packed-bit (t ∷ ts) (suc i) =
    let rest : packed (t ∷ ts) / 2 ≡ packed ts = omega (arith, digit_lt t) in
    bit-suc (packed (t ∷ ts)) i ∙ rw rest (packed-bit ts i)

status-packed : (r : Registers) (e : Enables) (p : Poll) → status_byte r e p ≡ packed (tests r e p)
unfolding status_byte other_bits
status-packed r e p =
    omega (
      arith,
      flag-digit p.at_rest 0,
      flag-digit p.idle 1,
      flag-digit (meets r.errors e.errors) 2,
      flag-digit (meets r.lia e.lia) 3,
      flag-digit p.waiting 4,
      flag-digit (meets r.standard e.standard) 5,
      flag-digit (meets (other_bits r e p) e.service) 6,
    )

pub status_bits : StatusBits
status_bits r e p i = ap (λ (n : ℕ). bit_of n i) (status-packed r e p) ∙ packed-bit (tests r e p) i
