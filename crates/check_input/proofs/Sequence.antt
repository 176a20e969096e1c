-- One byte after the other. Assumes nothing.
use Prim.Native.Nat.{ℕ, ◌+◌, ◌<◌, ◌≤◌}
use mathlib.Core.Bool.{Bool, true, false, cond}
use mathlib.Core.Path.{◌≡◌, ap}
use mathlib.Core.List.{List}
use native.Mathlib.Numerals.{add-one}
use lib.ListN.{length, drop, get_or, drop_of_length-le}
use lib.Seq.{drop-cons}
use Rattle.check_input.specs.Bytes.{Memory, memory, line_one_after, script_after, after_byte, after_bytes}

-- whose byte it is
abbrev either : ℕ → Memory → Bool → Memory
either b h t = cond t (script_after b h) (memory (line_one_after b h.input) h.script)

pub of_script : (b : ℕ) (h : Memory) → h.input.ending ≡ true → after_byte b h ≡ script_after b h
unfolding after_byte
of_script b h e = ap (either b h) e

pub of_line-one : (b : ℕ) (h : Memory) → h.input.ending ≡ false →
    after_byte b h ≡ memory (line_one_after b h.input) h.script
unfolding after_byte
of_line-one b h e = ap (either b h) e

-- the bytes from a place on
pub none_left : (bytes : List ℕ) (i : ℕ) (h : Memory) → length bytes ≤ i → after_bytes (drop i bytes) h ≡ h
unfolding after_bytes
none_left bytes i h l = rw (drop_of_length-le bytes {i = i} l)

pub one_left : (bytes : List ℕ) (i : ℕ) (h : Memory) → i < length bytes →
    after_bytes (drop i bytes) h ≡ after_bytes (drop (i + 1) bytes) (after_byte (get_or bytes i 0) h)
unfolding after_bytes
one_left bytes i h l = rw (add-one, drop-cons bytes i 0 l)
