-- The promise on the search for a name (§3.2), proved in `proofs/Words.antt`: by its four bytes as one number the same
-- meaning is found as byte by byte. Assumes nothing.
use Rattle.std.specs.Prelude.{ℕ, Bool, false, ◌&&◌, ◌≡◌, List, [], ◌∷◌, T, ltb}
use Rattle.mnemonic.specs.Names.{meaning_of}
use Rattle.mnemonic.specs.Parts.{word, found_of}

-- four bytes
abbrev pub is_four : List ℕ → Bool
is_four (a ∷ b ∷ c ∷ d ∷ []) = ltb a 256 && (ltb b 256 && (ltb c 256 && ltb d 256))
is_four [] = false
is_four (a ∷ []) = false
is_four (a ∷ b ∷ []) = false
is_four (a ∷ b ∷ c ∷ []) = false
is_four (a ∷ b ∷ c ∷ d ∷ e ∷ s) = false

-- §3.2: of any four bytes, a command's name or not
abbrev pub FoundWord : Type 0
FoundWord = (s : List ℕ) → T (is_four s) → found_of (word s) ≡ meaning_of s
