-- The points stored, over every call: what is held of the history, and what is replied of it. Assumes nothing.
use Prim.Native.Nat.{ℕ, ◌-◌}
use native.Mathlib.Omega.{arith}
use mathlib.Core.Bool.{Bool, true, false, cond, and-eq-true_iff}
use mathlib.Core.List.{List, []}
use mathlib.Core.Path.{◌≡◌, refl, ◌∙◌}
use lib.Dec.{leb}
use lib.ListN.{length}
use borrow.Author.Tests.{eqb-true, le-leb, lt-leb}
use Rattle.std.specs.Prelude.{Ok, Err}
use Rattle.split.specs.Ascii.{bytes}
use Rattle.outcome.specs.declared.Refusal.{Refusal}
use Rattle.outcome.specs.declared.Refusal.TheVariants.{LongLine}
use Rattle.outcome.specs.Code.{Outcome, done}
use Rattle.command.specs.declared.QueryArgument.TheVariants as query
use Rattle.state.specs.State.{start_state, with_error_bit}
use Rattle.state.specs.Valid.{valid_state}
use Rattle.state.specs.declared.Installation.{Installation}
use Rattle.precondition.specs.Allowed.{query_allowed}
use Rattle.queue.specs.Queue as queue
use Rattle.queue.specs.declared.Queue.{Queue}
use Rattle.queue.specs.declared.LineEnd.{LineEnd}
use Rattle.queue.specs.declared.LineEnd.TheVariants as ending
use Rattle.reply_buffer.specs.After.{After, silent}
use Rattle.event.specs.Event.{event_of}
use Rattle.event.specs.declared.Event.{Event}
use Rattle.state.proofs.Sound.{sound, capacity_known}
use Rattle.module.specs.Start.{fresh_module}
use Rattle.module.specs.Module.{valid_module, guard_of}
use Rattle.module.specs.declared.Module.{Module}
use Rattle.lockin.specs.Start.{start_call}
use Rattle.lockin.specs.Calls.{with_queue, guarded, refused_whole, line_end, whole_end, whole_line, line_call}
use Rattle.lockin.specs.Calls.{received_call, byte_received, byte_call, event_call}
use Rattle.points.specs.Points.{History, Holds, unless_refused, history_after_line, after_line_call, after_ended}
use Rattle.points.specs.Points.{after_byte_call, history_after_event, after_event_call, Stored, by_start, by_line, by_byte}
use Rattle.lockin.specs.Run.{mark_before, refused_run, run_call}
use Rattle.runs.specs.Singly.{Fed, unfed, fed_with, Taken, whole, stopped, next}
use Rattle.runs.proofs.Singly.{runs_are_bytes}
use Rattle.points.specs.Points.{by_event, StoredSome, PointsKept, trace_query, RepliesPoints}
use Rattle.invariant.proofs.StaysValid.{passes, start_by}
use Rattle.points.proofs.History.{Fits, emptied_holds, event-holds, marked-holds, line-holds}
use Rattle.demand2.proofs.Asked.{asked_call, asked-refused}
use Rattle.points.proofs.Replies.{says-points, says-trace, points-same, trace-same}
use Rattle.points.proofs.Replies.{points-reply, trace_allowed, trace-reply}

-- ---- the start

fresh_holds : (u : Installation) (one two : List ℕ) → Holds [] (fresh_module u).state one two
unfolding fresh_module start_state
fresh_holds u one two = emptied_holds (fresh_module u).state one two refl

start-holds : (serial port first second : ℕ) (one two : List ℕ) →
    Holds [] (start_call serial port first second).after.state one two
start-holds serial port first second one two =
    start_by serial port first second (λ s. Holds [] s.after.state one two)
    (λ r. fresh_holds (record { serial = 0; port = 1; capacity = 1 }) one two)
    (λ p q. fresh_holds (record { serial = serial; port = port; capacity = first }) one two)

-- ---- calls

fits-passed : (m : Module) (one two : List ℕ) → guard_of m (length one) (length two) ≡ done → Fits m.state one two
unfolding valid_module
fits-passed m one two e =
    let p = passes m (length one) (length two) e in
    record {
      valid = ((and-eq-true_iff (valid_state m.state) (queue.is_valid m.queue m.state.installation.port)).0
          p.valid).0;
      first = eqb-true (length one) m.state.installation.capacity p.first_fits;
      second = eqb-true (length two) m.state.installation.capacity p.second_fits;
    }

module _ (history : History) (m : Module) (one two : List ℕ) (h : Holds history m.state one two) where
  -- a call where 11 and 9 let it be
  guarded-holds : {R : Type 0} (report : Refusal → R) (o : Outcome) → guard_of m (length one) (length two) ≡ o →
      (c : After Module R) (now : History) →
      (Fits m.state one two → Holds now c.after.state c.one c.two) →
      let g = guarded report o c m one two in
      Holds (unless_refused o now history) g.after.state g.one g.two
  unfolding guarded unless_refused
  guarded-holds report (Ok _) e c now k = k (fits-passed m one two e)
  guarded-holds report (Err r) e c now k = h

  long-holds : Fits m.state one two → Holds history (with_error_bit LongLine m.state) one two
  long-holds f = marked-holds history m.state one two h f LongLine

  whole-holds : (room : ℕ) (line : List ℕ) → Fits m.state one two →
      let c = whole_line room line m one two in
      Holds (cond (leb (length line) queue.line_limit) (history_after_line room line m.state one two history) history)
      c.after.state c.one c.two
  unfolding whole_line whole_end line_end
  whole-holds room line f = by (leb (length line) queue.line_limit) where
    by : (t : Bool) →
        let c = line_end (cond t ending.Line ending.TooLong) room line m.state one two in
        Holds (cond t (history_after_line room line m.state one two history) history) c.after c.one c.two
    by true = line-holds room line m.state one two history f h
    by false = long-holds f

  line_kept : (room : ℕ) (line : List ℕ) →
      let c = line_call room line m one two in
      Holds (after_line_call room line m one two history) c.after.state c.one c.two
  unfolding line_call after_line_call
  line_kept room line =
      guarded-holds refused_whole (guard_of m (length one) (length two)) refl (whole_line room line m one two)
      (cond (leb (length line) queue.line_limit) (history_after_line room line m.state one two history) history)
      (whole-holds room line)

  ended-holds : (room : ℕ) (e : LineEnd) (q : Queue) → Fits m.state one two →
      let c = received_call e q room m one two in
      Holds (after_ended e q room m one two history) c.after.state c.one c.two
  unfolding received_call line_end after_ended
  ended-holds room ending.Nothing q f = h
  ended-holds room ending.Line q f = line-holds room (queue.waiting_bytes q) m.state one two history f h
  ended-holds room ending.TooLong q f = long-holds f

  byte-kept : (room b : ℕ) (mark : Bool) →
      let c = byte_call room b mark m one two in
      Holds (after_byte_call room b mark m one two history) c.after.state c.one c.two
  unfolding byte_call byte_received after_byte_call
  byte-kept room b mark =
      let received = queue.received_of m.queue m.state.installation.port b mark in
      guarded-holds refused_whole (guard_of m (length one) (length two)) refl (byte_received room b mark m one two)
      (after_ended received.ending received.queue room m one two history) (ended-holds room received.ending received.queue)

  event-kept : (e : Event) →
      let c = event_call e m one two in
      Holds (after_event_call e m one two history) c.after.state c.one c.two
  unfolding event_call after_event_call
  event-kept e =
      guarded-holds Err (guard_of m (length one) (length two)) refl
      (with_queue m.queue (event_of e m.state one two))
      (history_after_event e m.state history) (λ f. event-holds history m.state one two h f e)

made_holds : (history : History) (m : Module) (one two : List ℕ) → Stored history m one two →
    Holds history m.state one two
made_holds _ _ _ _ (by_start serial port first second one two) = start-holds serial port first second one two
made_holds _ _ _ _ (by_line room line history m one two k) =
    line_kept history m one two (made_holds history m one two k) room line
made_holds _ _ _ _ (by_byte room b mark history m one two k) =
    byte-kept history m one two (made_holds history m one two k) room b mark
made_holds _ _ _ _ (by_event e history m one two k) =
    event-kept history m one two (made_holds history m one two k) e

-- ---- runs

-- a run that 11 or 9 refuses
run-refused : (room : ℕ) (bytes : List ℕ) (mark : Bool) (m : Module) (one two : List ℕ) (r : Refusal) →
    guard_of m (length one) (length two) ≡ Err r →
    run_call room bytes mark m one two ≡ silent (refused_run r) m one two
unfolding run_call guarded
run-refused room bytes mark m one two r g = rw g

-- bytes handed over one by one lead from stored to stored
taken-stored : (room : ℕ) (mark : Bool) (bytes : List ℕ) (f : Fed) (n : ℕ) (end : Fed) →
    Taken room mark bytes f n end → StoredSome f.after f.one f.two →
    StoredSome end.after end.one end.two
unfolding fed_with
taken-stored room mark _ _ _ _ (whole f) k = k
taken-stored room mark _ _ _ _ (stopped b more f s) k = k
taken-stored room mark _ _ _ _ (next b more f n end goes rest) k =
    let marked = mark_before mark more in
    taken-stored room mark more (fed_with room b marked f) n end rest
    (record {
      history = _;
      stored = by_byte (room - length f.replies) b marked k.history f.after f.one f.two k.stored;
    })

run-stored : (room : ℕ) (bytes : List ℕ) (mark : Bool) (history : History) (m : Module) (one two : List ℕ) →
    length m.queue.bytes ≡ queue.line_limit → Stored history m one two →
    let c = run_call room bytes mark m one two in
    StoredSome c.after c.one c.two
run-stored room bytes mark history m one two long k = by (guard_of m (length one) (length two)) refl where
  here : StoredSome m one two
  here = record { history = history; stored = k }

  by : (o : Outcome) → guard_of m (length one) (length two) ≡ o →
      let c = run_call room bytes mark m one two in StoredSome c.after c.one c.two
  by (Ok _) g =
      let same = runs_are_bytes.same room bytes mark m one two long g in
      rw (same.after, same.first, same.second)
      (taken-stored room mark bytes (unfed m one two) _ same.fed same.taken here)
  by (Err r) g = rw (run-refused room bytes mark m one two r g) here

pub points_kept : PointsKept
points_kept =
    record {
      start = start-holds;
      line = λ room line history m one two h. line_kept history m one two h room line;
      byte = λ room b mark history m one two h. byte-kept history m one two h room b mark;
      event = λ e history m one two h. event-kept history m one two h e;
      made = made_holds;
      run = run-stored;
    }

-- ---- replies

pub points_replied : RepliesPoints
unfolding query_allowed
points_replied history m one two k =
    let s = m.state in
    let f = fits-passed m one two k.passes in
    let c = capacity_known s.installation (sound s f.valid).installation in
    record {
      points = λ room fits.
          asked_call (bytes "SPTS?") query.Points says-points room m one two k.passes _ (points-same s) refl
          (points-reply history s one two k.holds) fits;
      trace = λ room form t bin count low high some l fits.
          asked_call (trace_query form t bin count) (query.Trace form t bin count)
          (says-trace form t bin count low high (omega arith) some (omega arith)) room m one two k.passes _
          (trace-same s form t bin count)
          (trace_allowed history s one two k.holds form t bin count ∙ le-leb _ _ l)
          (trace-reply history s one two k.holds c.least f.first f.second form t bin count l) fits;
      beyond = λ room form t bin count low high far some most l.
          asked-refused (trace_query form t bin count) (query.Trace form t bin count)
          (says-trace form t bin count low high far some most) room m one two k.passes
          (trace_allowed history s one two k.holds form t bin count ∙ lt-leb _ _ l);
    }
