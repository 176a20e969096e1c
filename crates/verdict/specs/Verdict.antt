-- The script check's verdict: §13.7 and §13.8.
use Rattle.std.specs.Prelude.{ℕ, Result, Ok, Err}
use Rattle.outcome.specs.declared.Refusal.{Refusal}
use Rattle.verdict.specs.declared.Objection.{Objection}

-- §13.7 and §13.8: what the script check says
abbrev pub Verdict : Type 0
Verdict = Result Unit Objection

-- §13.7: nothing is refused
abbrev pub passes : Verdict
passes = Ok tt

-- §13.8: a line, a place and the refusal there
abbrev pub objected_at : ℕ → ℕ → Refusal → Verdict
objected_at line place refusal = Err (record { line = line; place = place; refusal = refusal })
