-- What counts of a line's bytes (§2.5), and how many it may have (§2.3, §2.4).
use Rattle.std.specs.Prelude.{ℕ, ◌-◌, Bool, cond, ◌||◌, List, [], ◌∷◌, ltb, eqb, take}
use Rattle.line_text.specs.declared.Cleaned.{Cleaned}

-- §2.3 and §2.4: the most bytes of a line, its end aside
abbrev pub line_limit : ℕ
line_limit = 256

-- the byte " "
abbrev pub space : ℕ
space = 0x20

-- the byte LF
abbrev pub lf : ℕ
lf = 0xA

-- the byte CR
abbrev pub cr : ℕ
cr = 0xD

-- the letter "a"
abbrev pub small_a : ℕ
small_a = 0x61

-- the letter "z"
abbrev pub small_z : ℕ
small_z = 0x7A

-- how far a capital letter is below its small one
abbrev pub case_distance : ℕ
case_distance = 32

-- §2.5: bytes that are left out wherever they are: space and CR
abbrev pub is_dropped : ℕ → Bool
is_dropped b = eqb b space || eqb b cr

-- §2.5: a small letter as its capital; any other byte as it is
abbrev pub capital : ℕ → ℕ
capital b = cond (ltb b small_a) b (cond (ltb small_z b) b (b - case_distance))

-- §2.5: a line's bytes that count
unfoldable pub cleaned : List ℕ → List ℕ
cleaned [] = []
cleaned (b ∷ bs) = cond (is_dropped b) (cleaned bs) (capital b ∷ cleaned bs)

-- the line that a Cleaned holds
abbrev pub shown : Cleaned → List ℕ
shown c = take c.len c.bytes
