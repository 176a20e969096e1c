-- A command's marks and arguments (§3.1).
use Rattle.std.specs.Prelude.{ℕ, List, [], ◌∷◌}
use Rattle.split.specs.Divide.{parts}
pub use Rattle.split.specs.Ascii.{comma}

-- §3.1: what makes a command a query: "?"
abbrev pub question_mark : ℕ
question_mark = 0x3F

-- §3.1: the arguments' texts: divided by commas; no text after the name or the "?" is no argument
unfoldable pub arguments : List ℕ → List (List ℕ)
arguments [] = []
arguments (b ∷ bs) = parts comma (b ∷ bs)
