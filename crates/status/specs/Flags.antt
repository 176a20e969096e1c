-- The promise on the status byte (§10.5), bit by bit, proved in `proofs/Flags.antt`. Assumes nothing.
use Rattle.std.specs.Prelude.{ℕ, Bool, false, cond, ◌≡◌, List, [], ◌∷◌, get_or}
use Rattle.status.specs.Bits.{bit_of, meets}
use Rattle.status.specs.Status.{other_bits, status_byte}
use Rattle.status.specs.declared.Registers.{Registers}
use Rattle.status.specs.declared.Enables.{Enables}
use Rattle.status.specs.declared.Poll.{Poll}

-- §10.5: the tests of bits 0 to 6
abbrev pub tests : Registers → Enables → Poll → List Bool
tests r e p =
    p.at_rest  -- 0: storage is reset or done
    ∷ p.idle  -- 1: no command is running
    ∷ meets r.errors e.errors  -- 2: an ERR bit is set and enabled
    ∷ meets r.lia e.lia  -- 3: a LIA bit is set and enabled
    ∷ p.waiting  -- 4: reply bytes of the line are waiting
    ∷ meets r.standard e.standard  -- 5: a standard event bit is set and enabled
    ∷ meets (other_bits r e p) e.service  -- 6: one of the bits above is set and enabled by *SRE
    ∷ []

-- a test as a bit: 1 where it holds, else 0
abbrev pub bit_of_test : Bool → ℕ
bit_of_test t = cond t 1 0

-- §10.5: each bit of the status byte is set exactly where its test holds, and no bit past 6 is set
abbrev pub StatusBits : Type 0
StatusBits = (r : Registers) (e : Enables) (p : Poll) (i : ℕ) →
    bit_of (status_byte r e p) i ≡ bit_of_test (get_or (tests r e p) i false)
