-- The event registers (§9.4, §10.1, §10.2, §10.4), their enables (§10.3) and the status byte (§10.5). Assumes nothing.
use Rattle.std.specs.Prelude.{ℕ, ◌+◌, ◌%◌, ◌^◌, Bool, ◌&&◌, not}
use Rattle.std.specs.Int.Bits.{bit_or}
use Rattle.mnemonic.specs.declared.Register.{Register}
use Rattle.mnemonic.specs.declared.Register.TheVariants.{Standard, Service, Lia, Errors}
use Rattle.status.specs.Bits.{without_bit, with_bit, meets, only, flag}
use Rattle.status.specs.declared.Registers.{Registers}
use Rattle.status.specs.declared.Enables.{Enables}
use Rattle.status.specs.declared.Poll.{Poll}

-- §10.1: PON, power on: standard event bit 7
abbrev pub pon : ℕ
pon = 2 ^ 7

-- §10.1: the event registers at start: only PON is set
abbrev pub start_registers : Registers
start_registers = record { standard = pon; lia = 0; errors = 0 }

-- §10.3: the enables at start: nothing is enabled
abbrev pub start_enables : Enables
start_enables = record { standard = 0; service = 0; lia = 0; errors = 0 }

-- §10.2: an event register; the service register is no event register, and counts as 0
unfoldable pub register_of : Registers → Register → ℕ
register_of r Standard = r.standard
register_of r Service = 0
register_of r Lia = r.lia
register_of r Errors = r.errors

-- the event registers with x in one of them
unfoldable pub with_register : Registers → Register → ℕ → Registers
with_register r Standard x = record { standard = x; lia = r.lia; errors = r.errors }
with_register r Service x = r
with_register r Lia x = record { standard = r.standard; lia = x; errors = r.errors }
with_register r Errors x = record { standard = r.standard; lia = r.lia; errors = x }

-- §10.2: the event registers after the query of one of them, which clears it
unfoldable pub cleared_of : Registers → Register → Registers
cleared_of r which = with_register r which 0

-- §10.2: the event registers after the query of bit i of one of them, which clears that bit only
unfoldable pub bit_cleared : Registers → Register → ℕ → Registers
bit_cleared r which i = with_register r which (without_bit (register_of r which) i)

-- §10.4: the event registers after *CLS
abbrev pub all_cleared : Registers
all_cleared = record { standard = 0; lia = 0; errors = 0 }

-- §10.1: the event registers with standard event bits set, as a refusal sets them
abbrev pub with_standard : Registers → ℕ → Registers
with_standard r bits = record { standard = bit_or r.standard bits; lia = r.lia; errors = r.errors }

-- §6.7, §6.8, §7.8 and §9.3: the event registers with LIA bits set, as by the frequency range, a trigger or a measured
-- frequency
abbrev pub with_lia : Registers → ℕ → Registers
with_lia r bits = record { standard = r.standard; lia = bit_or r.lia bits; errors = r.errors }

-- §9.4: the LIA bits that an event may raise
abbrev pub lia_raised : ℕ
lia_raised = 2 ^ 0 + 2 ^ 1 + 2 ^ 2 + 2 ^ 3

-- §9.4: the ERR bits that an event may raise
abbrev pub errors_raised : ℕ
errors_raised = 2 ^ 1 + 2 ^ 2 + (2 ^ 4 + 2 ^ 5 + 2 ^ 6 + 2 ^ 7)

-- §9.4: whether an event may raise these LIA and ERR bits
unfoldable pub may_raise : ℕ → ℕ → Bool
may_raise lia errors = only lia_raised lia && only errors_raised errors

-- §9.4: the event registers with the bits set that an event raises
abbrev pub with_raised : Registers → ℕ → ℕ → Registers
with_raised r lia errors = record { standard = r.standard; lia = bit_or r.lia lia; errors = bit_or r.errors errors }

-- §10.3: the enable of a register: *ESE, *SRE, LIAE or ERRE
unfoldable pub enable_of : Enables → Register → ℕ
enable_of e Standard = e.standard
enable_of e Service = e.service
enable_of e Lia = e.lia
enable_of e Errors = e.errors

-- §10.3: the *SRE bit that stays 0
abbrev pub service_bit : ℕ
service_bit = 6

-- §10.3: the enables with the byte x in one of them, bit 6 of *SRE left out
unfoldable pub with_enable_byte : Enables → Register → ℕ → Enables
with_enable_byte e Standard x = record { standard = x; service = e.service; lia = e.lia; errors = e.errors }
with_enable_byte e Service x =
    record { standard = e.standard; service = without_bit x service_bit; lia = e.lia; errors = e.errors }
with_enable_byte e Lia x = record { standard = e.standard; service = e.service; lia = x; errors = e.errors }
with_enable_byte e Errors x = record { standard = e.standard; service = e.service; lia = e.lia; errors = x }

-- §10.3: the enables with one set to the low byte of a value
unfoldable pub with_enable : Enables → Register → ℕ → Enables
with_enable e which value = with_enable_byte e which (value % 0x100)

-- §10.3: the enables with bit i of one set, or cleared where the value is 0
unfoldable pub with_enable_bit : Enables → Register → ℕ → ℕ → Enables
with_enable_bit e which i value = with_enable_byte e which (with_bit (enable_of e which) i value)

-- §10.5: bits 0 to 5 of the status byte: 2, 3 and 5 where some bit of a register is set and enabled, others as polled
unfoldable pub other_bits : Registers → Enables → Poll → ℕ
other_bits r e p =
    flag p.at_rest 0
    + flag p.idle 1
    + (flag (meets r.errors e.errors) 2
    + flag (meets r.lia e.lia) 3
    + flag (meets r.standard e.standard) 5)
    + flag p.waiting 4

-- §10.5: the status byte: bit 6 tells that *SRE enables one of the bits below it; bit 7 is 0
unfoldable pub status_byte : Registers → Enables → Poll → ℕ
status_byte r e p = other_bits r e p + flag (meets (other_bits r e p) e.service) 6

-- §10.1 and §12.11: the standard event bits that nothing sets: all but INP, QRY, EXE, CMD, URQ and PON
abbrev pub standard_unused : ℕ
standard_unused = 2 ^ 1 + 2 ^ 3

-- §12.11: the LIA bit that nothing sets: an event raises 0 to 3, the frequency range sets 4 and 5, a trigger 6
abbrev pub lia_unused : ℕ
lia_unused = 2 ^ 7

-- §12.11: the ERR bits that nothing sets: an event raises the others
abbrev pub errors_unused : ℕ
errors_unused = 2 ^ 0 + 2 ^ 3

-- §10.3 and §12.11: the mask of the *SRE bit that stays 0
abbrev pub service_unused : ℕ
service_unused = 2 ^ service_bit

-- §12.11: whether a state may have these registers and enables, their part of refusal 11: only bits that can be set
unfoldable pub is_valid : Registers → Enables → Bool
is_valid r e =
    not (meets r.standard standard_unused)
    && (not (meets r.lia lia_unused)
    && (not (meets r.errors errors_unused) && not (meets e.service service_unused)))
