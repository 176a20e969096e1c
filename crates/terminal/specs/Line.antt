-- Lines of the input.
use Rattle.std.specs.Prelude.{ℕ, ◌≤◌, length}
use Rattle.terminal.specs.declared.input.Line.{Line}
use Rattle.terminal.specs.declared.input.Line.TheVariants.{Bytes, TooLong}

-- a line that is given has at most as many bytes as there is room for
abbrev pub FitsRoom : ℕ → Line → Type 0
FitsRoom room (Bytes part) = length part.now ≤ room
FitsRoom room TooLong = Unit {0}
