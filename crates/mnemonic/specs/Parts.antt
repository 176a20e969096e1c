-- What only inner functions are held to: a name's four bytes as one number, by which the list is searched. Words says
-- that this is the search by bytes. No promise of a public call speaks of these.
use Rattle.std.specs.Prelude.{ℕ, ◌+◌, ◌*◌, cond, List, [], ◌∷◌, eqb, Option, Some, None}
use Rattle.mnemonic.specs.Names.{Named, commands}
use Rattle.mnemonic.specs.declared.Meaning.{Meaning}

-- the number v with bytes behind it
abbrev pub word_after : ℕ → List ℕ → ℕ
word_after v [] = v
word_after v (b ∷ bs) = word_after (v * 256 + b) bs

-- bytes as one number, the first highest
abbrev pub word : List ℕ → ℕ
word bs = word_after 0 bs

-- what a name stands for in a list of names, by its number, if it is one of them
unfoldable pub found_in : List Named → ℕ → Option Meaning
found_in [] w = None
found_in (n ∷ ns) w = cond (eqb (word n.name) w) (Some n.meaning) (found_in ns w)

-- what a name stands for, by its number; none is no command's name
abbrev pub found_of : ℕ → Option Meaning
found_of w = found_in commands w
