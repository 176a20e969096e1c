-- What only inner functions are held to: a text that is being written. No promise of a public call speaks of these.
use Rattle.std.specs.Prelude.{ℕ, List, ◌++◌, take}
use Rattle.format.specs.declared.Text.{Text}

-- the bytes of a text: those up to its length
abbrev pub bytes_of : Text → List ℕ
bytes_of t = take t.len t.bytes

-- the most bytes of a text: more than any reply in text has
abbrev pub text_limit : ℕ
text_limit = 32

-- bytes appended; what goes past the limit is dropped
unfoldable pub appended : List ℕ → List ℕ → List ℕ
appended xs bs = take text_limit (xs ++ bs)
