-- The script check's verdict as one number, for a console in C: §14.4.
use Rattle.std.specs.Prelude.{ℕ, ◌+◌, ◌-◌, ◌*◌, ◌/◌, ◌%◌, ◌^◌, min, Ok, Err}
use Rattle.outcome.specs.Code.{code_of}
use Rattle.verdict.specs.Verdict.{Verdict}

-- §14.4: the largest line of the number; one past it counts as this, so that every verdict has a number of 64 bits
abbrev pub line_most : ℕ
line_most = 2 ^ 40 - 1

-- §14.4: the largest place of the number; one past it counts as this
abbrev pub place_most : ℕ
place_most = 2 ^ 16 - 1

-- §14.4: 40 bits for the line, 16 for the place, 8 for the refusal's number
abbrev pub packed : ℕ → ℕ → ℕ → ℕ
packed line place number = min line line_most * 2 ^ 24 + min place place_most * 2 ^ 8 + number

-- §14.4: the number of each verdict, by its refusal's number; 0 where nothing is refused
unfoldable pub packed_number : Verdict → ℕ
packed_number (Ok u) = 0
packed_number (Err o) = packed o.line o.place (code_of o.refusal).number

-- §14.4: the line that a number holds
abbrev pub line_read : ℕ → ℕ
line_read n = n / 2 ^ 24

-- §14.4: the place that a number holds
abbrev pub place_read : ℕ → ℕ
place_read n = n / 2 ^ 8 % 2 ^ 16

-- §14.4: the refusal's number that a number holds
abbrev pub refusal_read : ℕ → ℕ
refusal_read n = n % 2 ^ 8
