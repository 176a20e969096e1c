-- A run of bytes in one call: §1.6, §2.9 and §2.10.
use Rattle.std.specs.Prelude.{ℕ, ◌+◌, ◌-◌, Bool, true, false, cond, ◌&&◌, List, [], ◌∷◌, ◌++◌, ltb, length, take, drop}
use Rattle.std.specs.Prelude.{Ok, Err}
use Rattle.outcome.specs.declared.Refusal.{Refusal}
use Rattle.outcome.specs.declared.Report.{Report}
use Rattle.outcome.specs.Answer.{report_of, numbers_of, Answer, passed}
use Rattle.queue.specs.Queue.{is_end, waiting_bytes, received_of}
use Rattle.queue.specs.declared.LineEnd.{LineEnd}
use Rattle.queue.specs.declared.LineEnd.TheVariants.{Nothing, Line, TooLong}
use Rattle.reply_buffer.specs.Buffer.{overwrite}
use Rattle.reply_buffer.specs.After.{After, silent}
use Rattle.line.specs.Line.{line_of}
use Rattle.module.specs.Module.{guard_of}
use Rattle.module.specs.declared.Module.{Module}
use Rattle.lockin.specs.Calls.{guarded, refused_whole, byte_received}
use Rattle.lockin.specs.declared.byte_run.RunNumbers.{RunNumbers}
use Rattle.lockin.specs.declared.byte_run.RunReport.{RunReport}
use Rattle.lockin.specs.declared.byte_run.RunResult.{RunResult}

-- §2.9: what is known of a run on its way
pub record RunTally : Type 0 where
  -- how many of its bytes are taken
  pub taken : ℕ
  -- §2.10: how many lines ended among them
  pub ended : ℕ
  -- §1.6: the line of the first refusal, 0 where nothing is refused
  pub line : ℕ
  -- §1.6: the first refusal, and the length of the replies so far
  pub report : Report

-- §2.9: a run on its way: what its bytes so far leave; `out` is what is written of the room, from its first byte on
abbrev pub Run : Type 0
Run = After Module RunTally

-- §2.9: the length of the replies so far
abbrev pub replied_length : Run → ℕ
replied_length r = r.report.report.length

-- ---- one byte of a run

-- §1.6: the first refusal of a run, once a further byte has this answer
unfoldable pub first_answer : Answer → Answer → Answer
first_answer (Ok _) later = later
first_answer (Err e) later = Err e

-- §1.6: the line of the first refusal, once a further byte in the line `here` has this answer
unfoldable pub first_line : Answer → ℕ → Answer → ℕ → ℕ
first_line (Ok _) line (Ok _) here = line
first_line (Ok _) line (Err e) here = here
first_line (Err e) line later here = line

-- §2.9: a reply that is written behind the first n bytes of what the run wrote
abbrev pub written_behind : ℕ → List ℕ → List ℕ → List ℕ
written_behind n reply out = take n out ++ overwrite reply (drop n out)

-- §2.9: one more byte of a run whose room is `room`: it does what it does by itself, lent what the replies so far leave
-- of the room
unfoldable pub next_byte : ℕ → ℕ → Bool → Run → Run
next_byte room b mark r =
    let tally = r.report in
    let before = replied_length r in
    let c = byte_received (room - before) b mark r.after r.one r.two in
    record {
      after = c.after;
      one = c.one;
      two = c.two;
      out = written_behind before c.out r.out;
      report = record {
        taken = tally.taken + 1;
        ended = cond (is_end r.after.state.installation.port b mark) (tally.ended + 1) tally.ended;
        line = first_line tally.report.answer tally.line c.report.answer (tally.ended + 1);
        report = report_of (first_answer tally.report.answer c.report.answer) (before + c.report.length);
      };
    }

-- §2.10: whether what ended is a line that can run
abbrev pub is_line : LineEnd → Bool
is_line Nothing = false
is_line Line = true
is_line TooLong = false

-- §2.10: whether a byte would end a line of which some command meets 4 (§12.4), where `left` is left of the room
unfoldable pub lacks_room : ℕ → ℕ → Bool → Module → List ℕ → List ℕ → Bool
lacks_room left b mark m one two =
    let received = received_of m.queue m.state.installation.port b mark in
    is_line received.ending
    && (line_of left (waiting_bytes received.queue) m.state one two).report.dropped

-- §2.10: the run stops before such a byte, if a line has ended in the run before it
unfoldable pub stops_at : ℕ → ℕ → Bool → Run → Bool
stops_at room b mark r =
    ltb 0 r.report.ended && lacks_room (room - replied_length r) b mark r.after r.one r.two

-- ---- the run

-- §2.9: the end mark of the byte before these: only the last byte of a run may carry it
abbrev pub mark_before : Bool → List ℕ → Bool
mark_before mark [] = mark
mark_before mark (b ∷ more) = false

-- §2.9 and §2.10: the bytes one after the other, up to one at which the run stops
unfoldable pub run_from : ℕ → Bool → List ℕ → Run → Run
run_from room mark [] r = r
run_from room mark (b ∷ more) r =
    let marked = mark_before mark more in
    cond (stops_at room b marked r) r (run_from room mark more (next_byte room b marked r))

-- §2.9: a run before its first byte
abbrev pub start_run : Module → List ℕ → List ℕ → Run
start_run m one two = silent (record { taken = 0; ended = 0; line = 0; report = report_of passed 0 }) m one two

-- §1.6: what is reported of a run
abbrev pub run_report : RunTally → RunReport
run_report t = record { taken = t.taken; line = t.line; report = t.report }

-- §1.6: a run, and what is reported of it
abbrev pub reported : Run → After Module RunReport
reported r = record { after = r.after; one = r.one; two = r.two; out = r.out; report = run_report r.report }

-- §1.6: a run that 11 or 9 refuses: it takes nothing, and there is no line and no place
abbrev pub refused_run : Refusal → RunReport
refused_run r = record { taken = 0; line = 0; report = refused_whole r }

-- §1.4 and §1.6: a call with a run of bytes, the last of which may carry an end mark; §12.12: 11, 9, then what its
-- bytes meet
unfoldable pub run_call : ℕ → List ℕ → Bool → Module → List ℕ → List ℕ → After Module RunReport
run_call room bytes mark m one two =
    guarded refused_run (guard_of m (length one) (length two))
    (reported (run_from room mark bytes (start_run m one two))) m one two

-- §1.6: what a run reports, in numbers: no refusal is 0, at line and place 0. The promises of these calls use it
unfoldable pub run_numbers_of : RunReport → RunNumbers
run_numbers_of t =
    let n = numbers_of t.report in
    record { taken = t.taken; refusal = n.refusal; line = t.line; place = n.place; length = n.length }

-- what the code gives back of it
abbrev pub run_result : After Module RunReport → RunResult
run_result c = record { after = c.after; report = c.report }
