-- A line's bytes as its commands' texts (§2.6).
use Rattle.std.specs.Prelude.{ℕ, List}
use Rattle.split.specs.Divide.{parts}
use Rattle.line_text.specs.Clean.{cleaned}

-- §2.6: ";" stands between commands
abbrev pub semicolon : ℕ
semicolon = 0x3B

-- §2.5 and §2.6: the commands' texts of a line, empty ones too
abbrev pub texts_of : List ℕ → List (List ℕ)
texts_of line = parts semicolon (cleaned line)
