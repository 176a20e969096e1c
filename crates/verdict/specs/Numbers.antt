-- The script check's verdict in numbers: §13.7 and §13.8.
use Rattle.std.specs.Prelude.{ℕ, Ok, Err}
use Rattle.outcome.specs.Code.{code_of}
use Rattle.verdict.specs.Verdict.{Verdict}

-- §13.7 and §13.8: what the script check says
pub data VerdictNumbers : Type 0 where
  -- §13.7: nothing is refused
  ok : VerdictNumbers
  -- §13.8: the line, the place and the number of the refusal
  no : (line place refusal : ℕ) → VerdictNumbers

-- §13.7 and §13.8: each verdict in numbers, its refusal by its number; the promise of the script check uses it
unfoldable pub verdict_numbers : Verdict → VerdictNumbers
verdict_numbers (Ok u) = ok
verdict_numbers (Err o) = no o.line o.place (code_of o.refusal).number
