-- What is refused changes nothing but the bit laid down for it: the calls. Assumes nothing.
use Prim.Native.Nat.{ℕ, ◌+◌, ◌≤◌}
use native.Mathlib.Omega.{arith}
use mathlib.Core.Logic.{◌↔◌}
use mathlib.Core.Path.{◌≡◌, refl, sym, ap, subst, ◌∙◌}
use mathlib.Core.Bool.{Bool, true, false, cond, ◌&&◌, ◌||◌}
use mathlib.Core.List.{List}
use lib.Dec.{ltb, eqb}
use lib.ListN.{length}
use Rattle.std.specs.Prelude.{Err}
use Rattle.laws.proofs.Tests.{never}
use Rattle.outcome.specs.declared.Refusal.{Refusal}
use Rattle.outcome.specs.declared.Refusal.TheVariants.{LongLine, BadEvent, BadTraces, BadStart, BadState}
use Rattle.outcome.specs.Code.{Outcome}
use Rattle.outcome.specs.Answer.{refused_at}
use Rattle.outcome.proofs.Placed.{told_refusal, told_place}
use Rattle.outcome.specs.Code as outcome
use Rattle.line_text.specs.Texts.{texts_of}
use Rattle.status.specs.Status.{may_raise, with_raised}
use Rattle.state.specs.State.{pair_of, with_registers, with_latest}
use Rattle.state.specs.Valid.{latest_valid}
use Rattle.state.specs.declared.State.{State}
use Rattle.state.specs.declared.Installation as installation
use Rattle.reply_buffer.specs.After.{After, silent}
use Rattle.line.specs.Line.{run_all, start_line, line_of}
use Rattle.event.specs.Event.{done, refused, latest_taken, bits_raised, sampled_in, event_of}
use Rattle.event.specs.declared.Event.{Event}
use Rattle.event.specs.declared.Event.TheVariants.{Latest, Tick, Trigger, Measured, Raised}
use Rattle.event.proofs.Refused.{event-refused}
use Rattle.queue.specs.Queue as queue
use Rattle.queue.specs.declared.Queue.{Queue}
use Rattle.queue.specs.declared.LineEnd.{LineEnd}
use Rattle.queue.specs.declared.LineEnd.TheVariants as ending
use Rattle.module.specs.Start.{installation_known, traces_fit, fresh_module}
use Rattle.module.specs.Module.{valid_module, guard_of, status_between}
use Rattle.module.specs.declared.Module.{Module}
use Rattle.lockin.specs.declared.StartResult.{StartResult}
use Rattle.lockin.specs.declared.PollResult.{PollResult}
use Rattle.lockin.specs.Start.{refused_start, start_call}
use Rattle.lockin.specs.Calls.{Call, with_queue, guarded, refused_whole, line_ran, line_end, whole_end, whole_line, line_call}
use Rattle.lockin.specs.Calls.{received_call, byte_received, byte_call, event_call, poll_call}
use Rattle.lockin.specs.Run.{refused_run, run_call}
use Rattle.lockin.specs.declared.byte_run.RunReport.{RunReport}
use Rattle.runs.proofs.Singly.{runs_are_bytes}
use Rattle.demand1.specs.Demand1.{FirstRefusedCommand, RunsLine, received_to, RunsWaiting, OnlyQueued, Untouched, OnlyMarked}
use Rattle.demand1.specs.Demand1.{RefusedCall, emptied_at, OfRun, RefusedRun, RefusedEvent, OfStart, RefusedStart, RefusedPoll}
use Rattle.demand1.specs.Demand1.{RefusedChangesNothing}
use Rattle.demand1.specs.Demand1 as demand
use Rattle.demand1.proofs.OneByOne.{marked-only, command-refused, step-refused, commands_are, answering}
use Rattle.invariant.proofs.OneCommand.{open_call}

-- refusals 11 and 9, by the tests that decide them
guard_by : (m : Module) (first second : ℕ) (P : Outcome → Type 0) →
    P outcome.done → P (Err BadTraces) → P (Err BadState) → P (guard_of m first second)
unfolding guard_of
guard_by m first second P d t s =
    let capacity = m.state.installation.capacity in
    by (valid_module m) (eqb first capacity && eqb second capacity)
  where
    by : (a b : Bool) → P (cond a (cond b outcome.done (Err BadTraces)) (Err BadState))
    by true true = d
    by true false = t
    by false b = s

-- ---- a line that runs

ran_runs : (room : ℕ) (bytes : List ℕ) (m : Module) (q : Queue) (one two : List ℕ) →
    RunsLine room bytes m q one two (with_queue q (line_ran (line_of room bytes m.state one two)))
unfolding line_of
ran_runs room bytes m q one two =
    let start = start_line m.state one two in
    let a = answering room (texts_of bytes) start in
    record {
      end = run_all room (texts_of bytes) start;
      commands = commands_are room (texts_of bytes) start refl;
      state = refl;
      queue = refl;
      first = refl;
      second = refl;
      reply = refl;
      report = refl;
      passed = a.passed refl;
      placed = λ r place e. from_start r place (a.placed refl r place e);
    }
  where
    from_start : (r : Refusal) (place : ℕ) →
        ((p : ℕ) × (place ≡ 0 + p) × FirstRefusedCommand r p room (texts_of bytes) (start_line m.state one two)) →
        FirstRefusedCommand r place room (texts_of bytes) (start_line m.state one two)
    from_start r place x = let same : x.0 ≡ place = omega (arith, x.1) in rw same at x.2

-- its commands' places are counted from 1
placed_never : {A : Type 0} (room : ℕ) (bytes : List ℕ) (m : Module) (q : Queue) (one two : List ℕ) (c : Call) →
    RunsLine room bytes m q one two c → (r : Refusal) → c.report.answer ≡ refused_at r 0 → A
placed_never room bytes m q one two c x r e = absurd (omega (arith, (x.placed r 0 e).counted))

nowhere_never : {A : Type 0} (r q : Refusal) (p : ℕ) → refused_at r 0 ≡ refused_at q (p + 1) → A
nowhere_never r q p e = let z : 0 ≡ p + 1 = told_place e in absurd (omega arith)

-- ---- refused before any command

module _ (m : Module) (one two : List ℕ) (refusal : Refusal) (q : Queue) where
  -- the promise of a call
  Refuses : Call → Type 0
  Refuses c = c.report.answer ≡ refused_at refusal 0 → RefusedCall m q one two c refusal

  -- 11 and 9 refuse it, or it refuses by itself
  abbrev guarded_call : Outcome → Call → Call
  guarded_call o c = guarded refused_whole o c m one two

  guarded-refuses : (c : Call) → Refuses c → Refuses (guarded_call (guard_of m (length one) (length two)) c)
  unfolding guarded Refuses
  guarded-refuses c f =
      guard_by m (length one) (length two) (λ o. Refuses (guarded_call o c)) f
      (λ e. let same : BadTraces ≡ refusal = told_refusal e in rw (← same) (demand.traces_refused (same_all BadTraces)))
      (λ e. let same : BadState ≡ refusal = told_refusal e in rw (← same) (demand.state_refused (same_all BadState)))
    where
      same_all : (r : Refusal) → Untouched m one two (guarded_call (Err r) c)
      same_all r = record { after = refl; first = refl; second = refl; reply = refl; length = refl }

  -- what comes of a line's end: 5 alone is reported at place 0, and then the queue is q
  end-refuses : (e : LineEnd) (room : ℕ) (bytes : List ℕ) (t : Queue) → (e ≡ ending.TooLong → t ≡ q) →
      Refuses (with_queue t (line_end e room bytes m.state one two))
  unfolding line_end Refuses
  end-refuses ending.Nothing room bytes t h = λ e. never (cc)
  end-refuses ending.Line room bytes t h =
      let c = with_queue t (line_ran (line_of room bytes m.state one two)) in
      placed_never room bytes m t one two c (ran_runs room bytes m t one two) refusal
  end-refuses ending.TooLong room bytes t h = λ e.
      let same : LongLine ≡ refusal = told_refusal e in
      let x : OnlyMarked m q one two (with_queue t (line_end ending.TooLong room bytes m.state one two)) = record {
        marked = marked-only LongLine 0 m.state refl;
        queue = h refl;
        first = refl;
        second = refl;
        reply = refl;
        length = refl;
      } in
      rw (← same) (demand.line_too_long x)

line_refused : (room : ℕ) (bytes : List ℕ) (m : Module) (one two : List ℕ) (refusal : Refusal) →
    Refuses m one two refusal m.queue (line_call room bytes m one two)
unfolding line_call whole_line
line_refused room bytes m one two refusal =
    let q = m.queue in
    guarded-refuses m one two refusal q (whole_line room bytes m one two)
    (end-refuses m one two refusal q (whole_end (length bytes)) room bytes q (λ e. refl))

-- the queue after byte 257
received-long : (q : Queue) (port b : ℕ) (mark : Bool) → (queue.received_of q port b mark).ending ≡ ending.TooLong
    → (queue.received_of q port b mark).queue ≡ emptied_at q (queue.is_marked port mark)
unfolding queue.received_of queue.dropped_of queue.appended_of queue.too_long_of
received-long q port b mark =
    by q.discarding (queue.ends_line port b) (ltb q.len queue.line_limit) (queue.is_marked port mark)
  where
    by : (d e l k : Bool) →
        let received = cond d (queue.dropped_of q (queue.ends_line port b || k))
        (cond e (record { queue = q; ending = ending.Line })
        (cond l (record { queue = queue.longer q b; ending = cond k ending.Line ending.Nothing })
        (queue.too_long_of q k))) in
        received.ending ≡ ending.TooLong → received.queue ≡ emptied_at q k
    by true e l k p = never (cc)
    by false true l k p = never (cc)
    by false false true true p = never (cc)
    by false false true false p = never (cc)
    by false false false k p = refl

-- where the line was too long the queue stays as the byte left it
run_long : (e : LineEnd) (t q : Queue) → (e ≡ ending.TooLong → t ≡ q) → e ≡ ending.TooLong → queue.after_run e t ≡ q
run_long ending.Nothing t q h e = never (cc)
run_long ending.Line t q h e = never (cc)
run_long ending.TooLong t q h e = h e

byte-refused : (room b : ℕ) (mark : Bool) (m : Module) (one two : List ℕ) (refusal : Refusal) →
    let q = emptied_at m.queue (queue.is_marked m.state.installation.port mark) in
    Refuses m one two refusal q (byte_call room b mark m one two)
unfolding byte_call byte_received received_call
byte-refused room b mark m one two refusal =
    let port = m.state.installation.port in
    let received = queue.received_of m.queue port b mark in
    let q = emptied_at m.queue (queue.is_marked port mark) in
    guarded-refuses m one two refusal q (byte_received room b mark m one two)
    (end-refuses m one two refusal q received.ending room (queue.waiting_bytes received.queue)
    (queue.after_run received.ending received.queue)
    (run_long received.ending received.queue q (received-long m.queue port b mark)))

-- ---- the calls that run a line

module _ (m : Module) (one two : List ℕ) where
  guarded-done : (c : Call) → guard_of m (length one) (length two) ≡ outcome.done →
      guarded refused_whole (guard_of m (length one) (length two)) c m one two ≡ c
  unfolding guarded
  guarded-done c g = rw g

  -- an answer with a place other than 0 is given only where 11 and 9 do not refuse
  guarded-placed : (P : Call → Type 0) (c : Call) (r : Refusal) (p : ℕ) →
      (c.report.answer ≡ refused_at r (p + 1) → P c) →
      let d = guarded refused_whole (guard_of m (length one) (length two)) c m one two in
      d.report.answer ≡ refused_at r (p + 1) → P d
  unfolding guarded
  guarded-placed P c r p f =
      guard_by m (length one) (length two)
      (λ o. let d = guarded refused_whole o c m one two in d.report.answer ≡ refused_at r (p + 1) → P d)
      f (λ e. nowhere_never BadTraces r p e) (λ e. nowhere_never BadState r p e)

line_runs : (room : ℕ) (bytes : List ℕ) (m : Module) (one two : List ℕ) →
    guard_of m (length one) (length two) ≡ outcome.done → length bytes ≤ queue.line_limit →
    RunsLine room bytes m m.queue one two (line_call room bytes m one two)
line_runs room bytes m one two g h =
    rw (open_call room bytes m one two g h) (ran_runs room bytes m m.queue one two)

line-placed : (room : ℕ) (bytes : List ℕ) (m : Module) (one two : List ℕ) (refusal : Refusal) (p : ℕ) →
    (line_call room bytes m one two).report.answer ≡ refused_at refusal (p + 1) →
    RunsLine room bytes m m.queue one two (line_call room bytes m one two)
unfolding line_call whole_line
line-placed room bytes m one two r p =
    let q = m.queue in
    guarded-placed m one two (RunsLine room bytes m q one two) (whole_line room bytes m one two) r p
    (by (whole_end (length bytes)))
  where
    by : (e : LineEnd) →
        let c = with_queue m.queue (line_end e room bytes m.state one two) in
        c.report.answer ≡ refused_at r (p + 1) → RunsLine room bytes m m.queue one two c
    by ending.Nothing e = unfold line_end in never (cc)
    by ending.Line e = unfold line_end in ran_runs room bytes m m.queue one two
    by ending.TooLong e = unfold line_end in nowhere_never LongLine r p e

module _ (room b : ℕ) (mark : Bool) (m : Module) (one two : List ℕ) where
  -- what the byte does where 11 and 9 do not refuse it
  received_is : guard_of m (length one) (length two) ≡ outcome.done → (e : LineEnd) →
      (received_to m b mark).ending ≡ e →
      byte_call room b mark m one two ≡ received_call e (received_to m b mark).queue room m one two
  unfolding byte_call byte_received
  received_is g e h = rw (guarded-done m one two (byte_received room b mark m one two) g, h)

  byte_runs : guard_of m (length one) (length two) ≡ outcome.done → (received_to m b mark).ending ≡ ending.Line →
      RunsWaiting room b mark m one two
  byte_runs g h = rw (received_is g ending.Line h) (received_runs (received_to m b mark).queue) where
    received_runs : (q : Queue) →
        RunsLine room (queue.waiting_bytes q) m (queue.emptied_of q) one two (received_call ending.Line q room m one two)
    received_runs q = unfold received_call line_end in ran_runs room (queue.waiting_bytes q) m (queue.emptied_of q) one two

  received-waits : (q : Queue) → OnlyQueued m q one two (received_call ending.Nothing q room m one two)
  unfolding received_call line_end
  received-waits q =
      record { state = refl; queue = refl; first = refl; second = refl; reply = refl; answer = refl; length = refl }

  byte-waits : guard_of m (length one) (length two) ≡ outcome.done → (received_to m b mark).ending ≡ ending.Nothing →
      OnlyQueued m (received_to m b mark).queue one two (byte_call room b mark m one two)
  byte-waits g h = rw (received_is g ending.Nothing h) (received-waits (received_to m b mark).queue)

  received-placed : (e : LineEnd) (q : Queue) (r : Refusal) (p : ℕ) →
      let c = received_call e q room m one two in
      c.report.answer ≡ refused_at r (p + 1) →
      (e ≡ ending.Line) × RunsLine room (queue.waiting_bytes q) m (queue.emptied_of q) one two c
  unfolding received_call line_end
  received-placed ending.Nothing q r p e = never (cc)
  received-placed ending.Line q r p e = (refl, ran_runs room (queue.waiting_bytes q) m (queue.emptied_of q) one two)
  received-placed ending.TooLong q r p e = nowhere_never LongLine r p e

  byte-placed : (refusal : Refusal) (p : ℕ) →
      (byte_call room b mark m one two).report.answer ≡ refused_at refusal (p + 1) →
      ((received_to m b mark).ending ≡ ending.Line) × RunsWaiting room b mark m one two
  unfolding byte_call byte_received
  byte-placed r p =
      let received = received_to m b mark in
      let q = received.queue in
      guarded-placed m one two
      (λ c. (received.ending ≡ ending.Line) × RunsLine room (queue.waiting_bytes q) m (queue.emptied_of q) one two c)
      (byte_received room b mark m one two) r p (received-placed received.ending q r p)

-- ---- events

either_refused : (t : Bool) (a s : State) (r : Refusal) →
    (cond t (done a) (refused s)).outcome ≡ Err r → r ≡ BadEvent
either_refused true a s r p = never (cc)
either_refused false a s r p = cc

event-number : (e : Event) (s : State) (one two : List ℕ) (r : Refusal) →
    (event_of e s one two).report ≡ Err r → r ≡ BadEvent
unfolding event_of latest_taken bits_raised sampled_in
event-number (Latest w v) s one two r p =
    either_refused (latest_valid (pair_of w v)) (with_latest (pair_of w v) s) s r p
event-number Tick s one two r p = never (cc)
event-number Trigger s one two r p = never (cc)
event-number (Measured f) s one two r p = never (cc)
event-number (Raised lia errors) s one two r p =
    either_refused (may_raise lia errors) (with_registers (with_raised s.registers lia errors) s) s r p

call_refused : (e : Event) (m : Module) (one two : List ℕ) (refusal : Refusal) →
    (event_call e m one two).report ≡ Err refusal → RefusedEvent refusal m one two (event_call e m one two)
unfolding event_call guarded
call_refused e m one two r =
    let o = with_queue m.queue (event_of e m.state one two) in
    guard_by m (length one) (length two)
    (λ g. let c = guarded Err g o m one two in c.report ≡ Err r → RefusedEvent r m one two c)
    (λ p.
    let same = event-number e m.state one two r p in
    let u = event-refused e m.state one two (p ∙ ap Err same) in
    record {
      report = rw same demand.bad_event;
      after = ap (λ (s : State). record { state = s; queue = m.queue }) u.state;
      first = u.first;
      second = u.second;
    })
    (λ p. let same : BadTraces ≡ r = cc in
    record { report = rw (← same) demand.bad_traces; after = refl; first = refl; second = refl })
    (λ p. let same : BadState ≡ r = cc in
    record { report = rw (← same) demand.bad_state; after = refl; first = refl; second = refl })

-- ---- starts and polls

module _ (serial port first second : ℕ) where
  start-told : (r : Refusal) → OfStart serial port first second r →
      (start_call serial port first second).outcome ≡ Err r
  unfolding start_call
  start-told r (demand.unit_unknown u) = rw u
  start-told r (demand.traces_unfit u t) = rw (u, t)

  start-refused : (r : Refusal) →
      let s = start_call serial port first second in
      (s.outcome ≡ Err r) ↔ RefusedStart serial port first second r s
  unfolding start_call
  start-refused r = (by (installation_known serial port) (traces_fit first second) refl refl, λ s. start-told r s.report) where
    by : (u t : Bool) → installation_known serial port ≡ u → traces_fit first second ≡ t →
        let fixed : installation.Installation = record { serial = serial; port = port; capacity = first } in
        let made : StartResult = record { after = fresh_module fixed; outcome = outcome.done } in
        let s = cond u (cond t made (refused_start BadTraces)) (refused_start BadStart) in
        s.outcome ≡ Err r → RefusedStart serial port first second r s
    by true true u t e = never (cc)
    by true false u t e =
        let same : BadTraces ≡ r = cc in
        rw (← same) (record { report = demand.traces_unfit u t; after = refl })
    by false t u f e =
        let same : BadStart ≡ r = cc in
        rw (← same) (record { report = demand.unit_unknown u; after = refl })

poll-refused : (m : Module) (refusal : Refusal) →
    ((poll_call m).outcome ≡ Err refusal) ↔ RefusedPoll refusal m (poll_call m)
unfolding poll_call
poll-refused m r = (by (valid_module m) refl, λ x. rw (x.outside, x.report)) where
  by : (t : Bool) → valid_module m ≡ t →
      let report : PollResult = record { status = status_between m.state; outcome = outcome.done } in
      let p = cond t report (record { status = 0; outcome = Err BadState }) in
      p.outcome ≡ Err r → RefusedPoll r m p
  by true t e = never (cc)
  by false t e = record { report = cc; outside = t; status = refl }

-- ---- runs of bytes

module _ (room : ℕ) (bytes : List ℕ) (mark : Bool) (m : Module) (one two : List ℕ) (refusal : Refusal) (place : ℕ)
    (e : (run_call room bytes mark m one two).report.report.answer ≡ refused_at refusal place) where
  -- the refusal of 11 or 9
  refused-whole : (r : Refusal) → guard_of m (length one) (length two) ≡ Err r →
      run_call room bytes mark m one two ≡ silent (refused_run r) m one two
  unfolding run_call guarded
  refused-whole r g = rw g

  run-stays : (r : Refusal) → OfRun r → guard_of m (length one) (length two) ≡ Err r →
      RefusedRun refusal place m one two (run_call room bytes mark m one two)
  run-stays r of g =
      let is : run_call room bytes mark m one two ≡ silent (refused_run r) m one two = refused-whole r g in
      let told : refused_at r 0 ≡ refused_at refusal place =
      sym (ap (λ (c : After Module RunReport). c.report.report.answer) is) ∙ e in
      let same : r ≡ refusal = told_refusal told in
      let nowhere : place ≡ 0 = sym (told_place told) in
      subst (RefusedRun refusal place m one two) (sym is)
      (record {
        report = rw (← same) of;
        nowhere = nowhere;
        taken = refl;
        length = refl;
        after = refl;
        first = refl;
        second = refl;
        reply = refl;
      })

  run-refused : (run_call room bytes mark m one two).report.line ≡ 0 →
      RefusedRun refusal place m one two (run_call room bytes mark m one two)
  run-refused l =
      guard_by m (length one) (length two)
      (λ o. guard_of m (length one) (length two) ≡ o →
      RefusedRun refusal place m one two (run_call room bytes mark m one two))
      (λ g. let some = runs_are_bytes.placed room bytes mark m one two refusal place g e in absurd (omega arith))
      (run-stays BadTraces demand.of_traces) (run-stays BadState demand.of_state) refl

pub refused_changes_nothing : RefusedChangesNothing
unfolding Refuses
refused_changes_nothing =
    record {
      command = command-refused;
      step = step-refused;
      line = line_refused;
      line_runs = line_runs;
      line-placed = line-placed;
      byte = byte-refused;
      byte_runs = byte_runs;
      byte-waits = byte-waits;
      byte-placed = byte-placed;
      run = run-refused;
      run-bytes = runs_are_bytes.same;
      event = call_refused;
      start = start-refused;
      poll = poll-refused;
    }
