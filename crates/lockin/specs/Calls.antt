-- What the public calls on a module do, for every input: §1.1, §1.4, §1.5, §2.2, §2.3, §2.4, §10.7, §12.5, §12.11 and
-- §12.12.
use Rattle.std.specs.Prelude.{ℕ, Bool, cond, List, leb, length, Ok, Err}
use Rattle.outcome.specs.declared.Refusal.{Refusal}
use Rattle.outcome.specs.declared.Refusal.TheVariants.{LongLine, BadState}
use Rattle.outcome.specs.Code.{Outcome, done}
use Rattle.outcome.specs.declared.Report.{Report}
use Rattle.outcome.specs.Answer.{report_of, passed, refused_at}
use Rattle.state.specs.State.{with_error_bit}
use Rattle.state.specs.declared.State.{State}
use Rattle.queue.specs.Queue as queue
use Rattle.queue.specs.declared.Queue.{Queue}
use Rattle.queue.specs.declared.LineEnd.{LineEnd}
use Rattle.queue.specs.declared.LineEnd.TheVariants as ending
use Rattle.reply_buffer.specs.After.{After, silent}
use Rattle.line.specs.Line.{Line, line_of}
use Rattle.event.specs.Event.{event_of}
use Rattle.event.specs.declared.Event.{Event}
use Rattle.module.specs.Module.{valid_module, guard_of, status_between}
use Rattle.module.specs.declared.Module.{Module}
use Rattle.lockin.specs.declared.LineResult.{LineResult}
use Rattle.lockin.specs.declared.EventResult.{EventResult}
use Rattle.lockin.specs.declared.PollResult.{PollResult}

-- §1.5: what a call with a line or a byte leaves, and its report
abbrev pub Call : Type 0
Call = After Module Report

-- what the code gives back of it
abbrev pub line_result : Call → LineResult
line_result c = record { after = c.after; report = c.report }

-- §1.5: what a call with an event leaves, and its outcome
abbrev pub EventCall : Type 0
EventCall = After Module Outcome

-- what the code gives back of it
abbrev pub event_result : EventCall → EventResult
event_result c = record { after = c.after; outcome = c.report }

-- §1.1: a step on the state of a module, and the queue after it
abbrev pub with_queue : {R : Type 0} → Queue → After State R → After Module R
with_queue q step =
    record {
      after = record { queue = q; state = step.after };
      one = step.one;
      two = step.two;
      out = step.out;
      report = step.report;
    }

-- §1.4: where 11 (§12.11) or 9 (§12.9) refuses a call, the state or the module stays as it was, and the refusal is
-- reported
unfoldable pub guarded : {S R : Type 0} → (Refusal → R) → Outcome → After S R → S → List ℕ → List ℕ → After S R
guarded report (Ok _) step s one two = step
guarded report (Err r) step s one two = silent (report r) s one two

-- ---- lines and bytes

-- §1.5: what is reported where no command of a line has its turn: place 0 (§12.5), length 0
abbrev pub refused_whole : Refusal → Report
refused_whole r = report_of (refused_at r 0) 0

-- §1.5: the length reported of a line; §12.4: 0 where 4 refused a command of it
abbrev pub reported_length : Line → ℕ
reported_length l = cond l.report.dropped 0 (length l.out)

-- §1.5: a line that ran, and what is reported of it
abbrev pub line_ran : Line → After State Report
line_ran l =
    record {
      after = l.after;
      one = l.one;
      two = l.two;
      out = l.out;
      report = report_of l.report.answer (reported_length l);
    }

-- §12.5: 5, a line over the limit: INP is set
abbrev pub long_line : State → List ℕ → List ℕ → After State Report
long_line s one two = silent (refused_whole LongLine) (with_error_bit LongLine s) one two

-- §2.2 and §2.3: what comes of a line's end, where the line is `text`, of a line too long, or of neither (§1.5)
unfoldable pub line_end : LineEnd → ℕ → List ℕ → State → List ℕ → List ℕ → After State Report
line_end ending.Nothing room text s one two = silent (report_of passed 0) s one two
line_end ending.Line room text s one two = line_ran (line_of room text s one two)
line_end ending.TooLong room text s one two = long_line s one two

-- §2.4: a line handed over whole (a term of document 01), by its length
unfoldable pub whole_end : ℕ → LineEnd
whole_end len = cond (leb len queue.line_limit) ending.Line ending.TooLong

-- §2.4: a line handed over whole: the queue stays as it is; one over the limit is refused by 5, which sets INP alone
unfoldable pub whole_line : ℕ → List ℕ → Module → List ℕ → List ℕ → Call
whole_line room line m one two =
    with_queue m.queue (line_end (whole_end (length line)) room line m.state one two)

-- §1.4 and §2.4: a call with a line handed over whole; §12.12: 11, 9, then 5
unfoldable pub line_call : ℕ → List ℕ → Module → List ℕ → List ℕ → Call
line_call room line m one two =
    guarded refused_whole (guard_of m (length one) (length two)) (whole_line room line m one two) m one two

-- §2.2: what comes of a byte that left this queue: nothing ends, or the line that waits ends, runs and leaves the queue
-- empty; §2.3: or it is too long
unfoldable pub received_call : LineEnd → Queue → ℕ → Module → List ℕ → List ℕ → Call
received_call e q room m one two =
    with_queue (queue.after_run e q) (line_end e room (queue.waiting_bytes q) m.state one two)

-- §2.1 and §2.2: a byte with its end mark
unfoldable pub byte_received : ℕ → ℕ → Bool → Module → List ℕ → List ℕ → Call
byte_received room b mark m one two =
    let received = queue.received_of m.queue m.state.installation.port b mark in
    received_call received.ending received.queue room m one two

-- §1.4 and §2.2: a call with a byte; §12.12: 11, 9, then 5
unfoldable pub byte_call : ℕ → ℕ → Bool → Module → List ℕ → List ℕ → Call
byte_call room b mark m one two =
    guarded refused_whole (guard_of m (length one) (length two)) (byte_received room b mark m one two) m one two

-- ---- events and the serial poll

-- §1.4 and §1.5: a call with an event; the queue stays as it is; §12.12: 11, 9, then 6
unfoldable pub event_call : Event → Module → List ℕ → List ℕ → EventCall
event_call e m one two =
    guarded Err (guard_of m (length one) (length two))
    (with_queue m.queue (event_of e m.state one two)) m one two

-- §10.7: a serial poll: the status byte between lines; §1.4: it is lent no traces; §12.11: 0 where 11 refuses the state
unfoldable pub poll_call : Module → PollResult
poll_call m =
    cond (valid_module m)
    (record { status = status_between m.state; outcome = done })
    (record { status = 0; outcome = Err BadState })
