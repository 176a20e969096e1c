-- Quoted text as bytes, so that tables and examples can be written as text.
use Rattle.std.specs.Prelude.{ℕ, zero, suc, ◌+◌, List, [], ◌∷◌}
use Prim.Native.Char.{code}
use Prim.Native.String.{String, len, char_at}

-- the codes of n characters of a text, from its character i on
abbrev bytes_from : ℕ → ℕ → String → List ℕ
bytes_from i zero s = []
bytes_from i (suc n) s = code (char_at s i) ∷ bytes_from (i + 1) n s

-- the bytes of an ASCII text
abbrev pub bytes : String → List ℕ
bytes s = bytes_from 0 (len s) s

-- §3.1 and §4.6: "," stands between arguments, and between the values of a reply
abbrev pub comma : ℕ
comma = 0x2C
