-- The registers and enables that a state may have stay such under every function of `status`. Assumes nothing.
use Prim.Native.Nat.{ℕ, ◌%◌, ◌^◌, ◌≤◌}
use native.Mathlib.Nat.{le_of_eq}
use native.Mathlib.Omega.{arith}
use mathlib.Core.Bool.{true, not, and-eq-true_iff}
use mathlib.Core.Path.{◌≡◌, refl}
use lib.Dec.{eqb}
use lib.Bits.{bit_and, bit_or}
use borrow.Author.Tests.{eqb-true, eqb-false, not-true}
use Rattle.laws.proofs.Tests.{split}
use Rattle.mnemonic.specs.declared.Register.{Register}
use Rattle.mnemonic.specs.declared.Register.TheVariants.{Standard, Service, Lia, Errors}
use Rattle.status.specs.Bits.{bit_of, without_bit, with_bit, meets, only}
use Rattle.status.specs.Status.{start_registers, start_enables, register_of, with_register, cleared_of, bit_cleared, all_cleared, with_standard, with_lia, with_raised, may_raise, lia_raised, errors_raised, enable_of, with_enable_byte, with_enable, with_enable_bit, is_valid, standard_unused, lia_unused, errors_unused, service_unused}
use Rattle.status.specs.declared.Registers.{Registers}
use Rattle.status.specs.declared.Enables.{Enables}
use Rattle.status.proofs.Bits.{bit-or, apart_bits, bits_apart, met_none, meets-none, only_le, power_other}
use Rattle.status.proofs.Bits.{without_here, without_other}

-- ---- bits apart from any mask

pub or_apart : (a b m : ℕ) → bit_and a m ≡ 0 → bit_and b m ≡ 0 → bit_and (bit_or a b) m ≡ 0
or_apart a b m p q = bits_apart (bit_or a b) m (λ i. rw bit-or (omega (arith, apart_bits a m p i, apart_bits b m q i)))

-- with a bit cleared, each bit is that of x or 0
without_le : (x i j : ℕ) → bit_of (without_bit x i) j ≤ bit_of x j
without_le x i j =
    split (eqb i j) (λ h. rw (← eqb-true i j h, without_here) (omega arith))
    (λ h. le_of_eq (without_other x i j (eqb-false i j h)))

pub without_apart : (x i m : ℕ) → bit_and x m ≡ 0 → bit_and (without_bit x i) m ≡ 0
without_apart x i m p = bits_apart (without_bit x i) m (λ j. omega (arith, without_le x i j, apart_bits x m p j))

-- a cleared bit is apart from its mask
pub cleared-apart : (x i : ℕ) → bit_and (without_bit x i) (2 ^ i) ≡ 0
cleared-apart x i =
    bits_apart (without_bit x i) (2 ^ i)
    (λ j. split (eqb i j) (λ h. rw (← eqb-true i j h, without_here) (omega arith))
    (λ h. omega (arith, power_other i j (eqb-false i j h))))

-- bits within a mask are apart from what the mask is apart from
pub only-apart : (mask x m : ℕ) → only mask x ≡ true → bit_and mask m ≡ 0 → bit_and x m ≡ 0
only-apart mask x m h p = bits_apart x m (λ i. omega (arith, only_le mask x h i, apart_bits mask m p i))

-- ---- what a state keeps

pub record Kept (r : Registers) (e : Enables) : Type 0 where
  pub standard_free : bit_and r.standard standard_unused ≡ 0
  pub lia_free : bit_and r.lia lia_unused ≡ 0
  pub errors_free : bit_and r.errors errors_unused ≡ 0
  pub service_free : bit_and e.service service_unused ≡ 0

free : (x m : ℕ) → not (meets x m) ≡ true → bit_and x m ≡ 0
free x m h = met_none x m (not-true (meets x m) h)

module _ (r : Registers) (e : Enables) where
  pub kept : is_valid r e ≡ true → Kept r e
  unfolding is_valid
  kept h =
      let one = (and-eq-true_iff _ _).0 h in
      let two = (and-eq-true_iff _ _).0 one.1 in
      let three = (and-eq-true_iff _ _).0 two.1 in
      record {
        standard_free = free r.standard standard_unused one.0;
        lia_free = free r.lia lia_unused two.0;
        errors_free = free r.errors errors_unused three.0;
        service_free = free e.service service_unused three.1;
      }

  pub keeps_kept : Kept r e → is_valid r e ≡ true
  unfolding is_valid
  keeps_kept k =
      rw (
        meets-none r.standard standard_unused k.standard_free,
        meets-none r.lia lia_unused k.lia_free,
        meets-none r.errors errors_unused k.errors_free,
        meets-none e.service service_unused k.service_free,
      )

-- the unused bits of an event register
abbrev unused_of : Register → ℕ
unused_of Standard = standard_unused
unused_of Service = 0
unused_of Lia = lia_unused
unused_of Errors = errors_unused

module _ (r : Registers) (e : Enables) (h : is_valid r e ≡ true) where
  known : Kept r e
  known = kept r e h

  register_free : (which : Register) → bit_and (register_of r which) (unused_of which) ≡ 0
  unfolding register_of
  register_free Standard = known.standard_free
  register_free Service = refl
  register_free Lia = known.lia_free
  register_free Errors = known.errors_free

  register_kept : (which : Register) (x : ℕ) → bit_and x (unused_of which) ≡ 0 → Kept (with_register r which x) e
  unfolding with_register
  register_kept Standard x p = record { standard_free = p; lia_free = known.lia_free; errors_free = known.errors_free; service_free = known.service_free }
  register_kept Service x p = known
  register_kept Lia x p = record { standard_free = known.standard_free; lia_free = p; errors_free = known.errors_free; service_free = known.service_free }
  register_kept Errors x p = record { standard_free = known.standard_free; lia_free = known.lia_free; errors_free = p; service_free = known.service_free }

  -- *ESR?, LIAS?, ERRS?, and with a bit
  pub cleared_keeps : (which : Register) → is_valid (cleared_of r which) e ≡ true
  unfolding cleared_of
  cleared_keeps which = keeps_kept (with_register r which 0) e (register_kept which 0 refl)

  pub bit-cleared_keeps : (which : Register) (i : ℕ) → is_valid (bit_cleared r which i) e ≡ true
  unfolding bit_cleared
  bit-cleared_keeps which i =
      keeps_kept _ e
      (register_kept which (without_bit (register_of r which) i)
      (without_apart (register_of r which) i (unused_of which) (register_free which)))

  -- *CLS
  pub all_cleared_keeps : is_valid all_cleared e ≡ true
  all_cleared_keeps = keeps_kept all_cleared e (record { standard_free = refl; lia_free = refl; errors_free = refl; service_free = known.service_free })

  -- event bits
  pub standard_keeps : (bits : ℕ) → bit_and bits standard_unused ≡ 0 → is_valid (with_standard r bits) e ≡ true
  unfolding with_register
  standard_keeps bits p =
      keeps_kept (with_standard r bits) e
      (register_kept Standard (bit_or r.standard bits) (or_apart r.standard bits standard_unused known.standard_free p))

  pub lia_keeps : (bits : ℕ) → bit_and bits lia_unused ≡ 0 → is_valid (with_lia r bits) e ≡ true
  unfolding with_register
  lia_keeps bits p =
      keeps_kept (with_lia r bits) e
      (register_kept Lia (bit_or r.lia bits) (or_apart r.lia bits lia_unused known.lia_free p))

  pub raised_keeps : (lia errors : ℕ) → may_raise lia errors ≡ true → is_valid (with_raised r lia errors) e ≡ true
  unfolding may_raise
  raised_keeps lia errors m =
      let may = (and-eq-true_iff (only lia_raised lia) (only errors_raised errors)).0 m in
      keeps_kept (with_raised r lia errors) e
      (record {
        standard_free = known.standard_free;
        lia_free = or_apart r.lia lia lia_unused known.lia_free (only-apart lia_raised lia lia_unused may.0 refl);
        errors_free = or_apart r.errors errors errors_unused known.errors_free (only-apart errors_raised errors errors_unused may.1 refl);
        service_free = known.service_free;
      })

  -- *ESE, *SRE, LIAE, ERRE, with a value and with a bit
  service-kept : (f : Enables) → bit_and f.service service_unused ≡ 0 → Kept r f
  service-kept f p = record { standard_free = known.standard_free; lia_free = known.lia_free; errors_free = known.errors_free; service_free = p }

  enable-kept : (which : Register) (x : ℕ) → Kept r (with_enable_byte e which x)
  unfolding with_enable_byte
  enable-kept Standard x = service-kept (with_enable_byte e Standard x) known.service_free
  enable-kept Service x = service-kept (with_enable_byte e Service x) (cleared-apart x 6)
  enable-kept Lia x = service-kept (with_enable_byte e Lia x) known.service_free
  enable-kept Errors x = service-kept (with_enable_byte e Errors x) known.service_free

  pub enable_keeps : (which : Register) (value : ℕ) → is_valid r (with_enable e which value) ≡ true
  unfolding with_enable
  enable_keeps which value = keeps_kept r _ (enable-kept which (value % 256))

  pub enable-bit_keeps : (which : Register) (i value : ℕ) → is_valid r (with_enable_bit e which i value) ≡ true
  unfolding with_enable_bit
  enable-bit_keeps which i value = keeps_kept r _ (enable-kept which (with_bit (enable_of e which) i value))

-- at start
pub start_keeps : is_valid start_registers start_enables ≡ true
start_keeps = keeps_kept start_registers start_enables (record { standard_free = refl; lia_free = refl; errors_free = refl; service_free = refl })
