-- A line's answer (§2.7), which refusal drops the rest of a line (§12.4), and what is reported (§1.5).
use Rattle.std.specs.Prelude.{ℕ, Bool, false, eqb, Result, Ok, Err}
use Rattle.outcome.specs.Code.{code_of, Outcome}
use Rattle.outcome.specs.declared.Refusal.{Refusal}
use Rattle.outcome.specs.declared.Refusal.TheVariants.{NoRoom}
use Rattle.outcome.specs.declared.PlacedRefusal.{PlacedRefusal}
use Rattle.outcome.specs.declared.Report.{Report}
use Rattle.outcome.specs.declared.ReportNumbers.{ReportNumbers}

-- §2.7: a line's answer: nothing is refused, or the first refusal, and the place of its command in the line
abbrev pub Answer : Type 0
Answer = Result Unit PlacedRefusal

-- no command is refused
abbrev pub passed : Answer
passed = Ok tt

-- a command is refused, and its place
abbrev pub refused_at : Refusal → ℕ → Answer
refused_at r place = Err (record { refusal = r; place = place })

-- §2.6 and §2.7: a line's answer after one more command: its first refusal, with that command's number in the line, the
-- place (a term of document 01)
unfoldable pub first_of : Answer → Outcome → ℕ → Answer
first_of (Ok _) (Ok _) place = passed
first_of (Ok _) (Err r) place = refused_at r place
first_of (Err earlier) report place = Err earlier

-- §12.4: whether a refusal is 4: a reply longer than the room (a term of document 01), which is what is left (§12.13)
unfoldable pub is_no_room : Refusal → Bool
is_no_room r = eqb (code_of r).number (code_of NoRoom).number

-- §2.7 and §12.4: whether an outcome drops the rest of its line: refusal 4 alone does
unfoldable pub drops : Outcome → Bool
drops (Ok _) = false
drops (Err r) = is_no_room r

-- §1.5: what a call tells about a line: its answer, and the length of its reply
abbrev pub report_of : Answer → ℕ → Report
report_of a n = record { answer = a; length = n }

-- §1.5: an answer in numbers: refusal, place and length; 0 is no refusal, and has place 0
unfoldable pub numbered : Answer → ℕ → ReportNumbers
numbered (Ok _) n = record { refusal = 0; place = 0; length = n }
numbered (Err e) n = record { refusal = (code_of e.refusal).number; place = e.place; length = n }

-- §1.5: what a call with a line or a byte reports, in numbers. The promises of these calls use it
unfoldable pub numbers_of : Report → ReportNumbers
numbers_of t = numbered t.answer t.length
