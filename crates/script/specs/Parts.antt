-- What the check's code gives back for a line (§13.5); the check's own promise does not speak of this.
use Rattle.std.specs.Prelude.{ℕ, List, Result, Ok, Err}
use Rattle.outcome.specs.Answer.{Answer}
use Rattle.outcome.specs.declared.PlacedRefusal.{PlacedRefusal}
use Rattle.extreme_courses.specs.declared.Model.{Model}
use Rattle.extreme_courses.specs.declared.Extremes.{Extremes}
use Rattle.script.specs.Check.{texts_answer, texts_after, line_answer, line_after}

-- §13.5: a line by its answer: its first refusal with its place, and where there is none what is carried past it
unfoldable pub checked : Answer → Extremes → Result Extremes PlacedRefusal
checked (Ok _) after = Ok after
checked (Err first) after = Err first

-- §13.5: the commands of a line
abbrev pub texts_checked : Model → List (List ℕ) → Extremes → Result Extremes PlacedRefusal
texts_checked model texts b = checked (texts_answer model 1 texts b) (texts_after model texts b)

-- §13.3 and §13.5: a line with what can happen before it
abbrev pub line_checked : Model → List ℕ → Extremes → Result Extremes PlacedRefusal
line_checked model l b = checked (line_answer model l b) (line_after model l b)
