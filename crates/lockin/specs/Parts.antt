-- What only the code's inner functions are held to (§1.4, §1.5). No public call's promise speaks of these.
use Rattle.std.specs.Prelude.{ℕ, ◌+◌, Bool, false, cond, ◌≡◌, List, Ok, Err}
use Rattle.outcome.specs.Code.{Outcome}
use Rattle.outcome.specs.declared.Report.{Report}
use Rattle.outcome.specs.Answer.{report_of}
use Rattle.state.specs.declared.State.{State}
use Rattle.queue.specs.Queue.{received_of}
use Rattle.queue.specs.Parts.{queue_of, Describes}
use Rattle.queue.specs.declared.QueueStep.{QueueStep}
use Rattle.queue.specs.declared.LineEnd.TheVariants as ending
use Rattle.reply_buffer.specs.After.{After}
use Rattle.line.specs.declared.Progress.{Progress}
use Rattle.module.specs.declared.Module.{Module}
use Rattle.lockin.specs.Run.{RunTally, Run, first_answer, first_line, written_behind, next_byte, stops_at, run_report}
use Rattle.lockin.specs.declared.StateResult.{StateResult}
use Rattle.lockin.specs.declared.byte_run.QuietBytes.{QuietBytes}
use Rattle.lockin.specs.declared.byte_run.RunProgress.{RunProgress}
use Rattle.lockin.specs.declared.byte_run.RunResult.{RunResult}

-- §1.5: the length reported of a line as the code has it
abbrev pub length_of : Progress → ℕ
length_of p = cond p.dropped 0 p.at

-- what the code gives back of a line's end
abbrev pub result_of : After State Report → StateResult
result_of step = record { state = step.after; report = step.report }

-- §1.4: what a byte does to the queue's numbers: nothing where it is refused
unfoldable pub GuardedStep : Outcome → ℕ → Bool → ℕ → ℕ → Bool → QueueStep → Type 0
GuardedStep (Ok _) len discarding port b mark r =
    Describes (λ bytes. received_of (queue_of bytes len discarding) port b mark) len b r
GuardedStep (Err x) len discarding port b mark r =
    r ≡ record { stores = false; line = len; len = len; discarding = discarding; ending = ending.Nothing }

-- ---- runs

-- what is known of the run that the code is at
abbrev pub tally_at : RunProgress → RunTally
tally_at p = record { taken = p.taken; ended = p.ended; line = p.line; report = p.report }

-- §2.9: the run that the code is at, where these are the traces and the whole room as they stand
abbrev pub run_at : RunProgress → List ℕ → List ℕ → List ℕ → Run
run_at p one two room = record { after = p.after; one = one; two = two; out = room; report = tally_at p }

-- what the code gives back of a run on its way
abbrev pub progress_of : Run → RunProgress
progress_of r =
    let t = r.report in
    record { after = r.after; taken = t.taken; ended = t.ended; line = t.line; report = t.report }

-- §1.6: what the call gives back of a run at its end
abbrev pub result_at : RunProgress → RunResult
result_at p = record { after = p.after; report = run_report (tally_at p) }

-- §2.9: a run once bytes that end no line that can run are taken: another queue, of these bytes, and other counts
abbrev pub with_quiet : List ℕ → QuietBytes → Run → Run
with_quiet bytes q r =
    record {
      after = record { queue = queue_of bytes q.len q.discarding; state = r.after.state };
      one = r.one;
      two = r.two;
      out = r.out;
      report = record { taken = q.taken; ended = q.ended; line = r.report.line; report = r.report.report };
    }

-- §2.9: the code's result r, the traces and the whole room `new` are those of the step, its reply behind the first n
-- bytes of the room, which was `old` before
pub record Behind (n : ℕ) (step : After State Report) (r : StateResult) (one two new old : List ℕ) : Type 0 where
  pub result : r ≡ result_of step
  pub first : one ≡ step.one
  pub second : two ≡ step.two
  pub reply : new ≡ written_behind n step.out old

-- §1.6 and §2.9: the code's progress after one more byte, which left this module and this report
abbrev pub advanced : RunProgress → Module → Report → ℕ → RunProgress
advanced p m later ended =
    let before = p.report in
    record {
      after = m;
      taken = p.taken + 1;
      ended = ended;
      line = first_line before.answer p.line later.answer (p.ended + 1);
      report = report_of (first_answer before.answer later.answer) (before.length + later.length);
    }

-- §2.10: the run stops before the byte, and is as it was; else it is the run with the byte
pub record NextByte (room b : ℕ) (mark : Bool) (before : Run) (stopped : Bool) (after : Run) : Type 0 where
  pub stops : stopped ≡ stops_at room b mark before
  pub run : after ≡ cond stopped before (next_byte room b mark before)
