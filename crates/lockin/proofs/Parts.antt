-- The parts in which the code does a call, joined to the calls. Assumes nothing.
use Prim.Native.Nat.{ℕ, ◌≤◌, min}
use mathlib.Core.Path.{◌≡◌, refl, sym, ap, ◌∙◌}
use mathlib.Core.Bool.{Bool, true, false, cond, ◌&&◌}
use mathlib.Core.List.{List, []}
use native.Mathlib.Omega.{arith}
use lib.Dec.{leb, ltb}
use lib.ListN.{length, take, set, length-set}
use lib.Seq.{take_all}
use borrow.Author.Tests.{leb-true, leb-false}
use Rattle.std.specs.Prelude.{Ok, Err}
use Rattle.outcome.specs.declared.Refusal.{Refusal}
use Rattle.outcome.specs.declared.Report.{Report}
use Rattle.outcome.specs.Code.{number_of, Outcome}
use Rattle.outcome.specs.Answer.{numbers_of}
use Rattle.state.specs.declared.State.{State}
use Rattle.queue.specs.Queue.{line_limit}
use Rattle.queue.specs.Parts.{queue_of, bytes_with}
use Rattle.queue.specs.declared.Queue.{Queue}
use Rattle.queue.specs.declared.QueueStep.{QueueStep}
use Rattle.queue.specs.declared.LineEnd.{LineEnd}
use Rattle.reply_buffer.specs.After.{After, Meets}
use Rattle.event.specs.Event.{event_effect, event_of}
use Rattle.event.specs.declared.Event.{Event}
use Rattle.event.specs.declared.EventEffect.{EventEffect}
use Rattle.module.specs.Module.{guard_of}
use Rattle.module.specs.declared.Module.{Module}
use Rattle.lockin.specs.Calls.{Call, line_result, event_result, with_queue, guarded, refused_whole, line_end, whole_end}
use Rattle.lockin.specs.Calls.{whole_line, line_call, received_call, byte_received, byte_call, event_call}
use Rattle.lockin.specs.Parts.{result_of, GuardedStep}
use Rattle.lockin.specs.declared.StateResult.{StateResult}
use Rattle.lockin.specs.declared.LineResult.{LineResult}
use Rattle.lockin.specs.declared.EventResult.{EventResult}

-- ---- what the code gives back of a call

-- by what its step on the state gave back, and the queue after it
abbrev called_with : Queue → StateResult → LineResult
called_with q r = record { after = record { queue = q; state = r.state }; report = r.report }

-- what `lockin::take_line` and `lockin::take_byte` promise of a call
abbrev Answers : Call → LineResult → List ℕ → List ℕ → List ℕ → List ℕ → Type 0
Answers c r one two new old = Meets line_result c r one two new old × (numbers_of r.report ≡ numbers_of c.report)

answers : (q : Queue) {step : After State Report} {r : StateResult} {one two new old : List ℕ} →
    Meets result_of step r one two new old → Answers (with_queue q step) (called_with q r) one two new old
answers q h =
    let report = ap (λ r. r.report) h.result in (
      record { result = rw h.result; first = h.first; second = h.second; reply = h.reply },
      ap numbers_of report,
    )

-- a call that keeps its queue, as a step on the state
guarded-queue : {R : Type 0} (report : Refusal → R) (o : Outcome) (step : After State R) (m : Module)
    (one two : List ℕ) →
    guarded report o (with_queue m.queue step) m one two
    ≡ with_queue m.queue (guarded report o step m.state one two)
unfolding guarded
guarded-queue report (Ok _) step m one two = refl
guarded-queue report (Err r) step m one two = refl

-- ---- lengths

-- a line's end among at most line_limit bytes
pub within : (l : List ℕ) (n : ℕ) → length l ≤ line_limit → take (min n line_limit) l ≡ take n l
within l n h = by (leb n line_limit) refl where
  by : (t : Bool) → leb n line_limit ≡ t → take (min n line_limit) l ≡ take n l
  by true e = let same : min n line_limit ≡ n = omega (arith, leb-true n line_limit e) in rw same
  by false e =
      let past = leb-false n line_limit e in
      let all : min n line_limit ≡ line_limit = omega arith in
      rw all (take_all line_limit l h ∙ sym (take_all n l (omega arith)))

-- a stored byte leaves as many bytes as there were
pub stored-length : (stores : Bool) (at b : ℕ) (bytes : List ℕ) → length (bytes_with stores at b bytes) ≡ length bytes
stored-length stores at b bytes = by (stores && ltb at line_limit) where
  by : (t : Bool) → length (cond t (set bytes at b) bytes) ≡ length bytes
  by true = length-set bytes at b
  by false = refl

-- ---- a line handed over whole

-- its text up to the line limit does what all of it does
whole-end : (room : ℕ) (text : List ℕ) (s : State) (one two : List ℕ) →
    line_end (whole_end (length text)) room (take (min (length text) line_limit) text) s one two
    ≡ line_end (whole_end (length text)) room text s one two
unfolding whole_end line_end
whole-end room text s one two = by (leb (length text) line_limit) refl where
  by : (t : Bool) → leb (length text) line_limit ≡ t →
      line_end (whole_end (length text)) room (take (min (length text) line_limit) text) s one two
      ≡ line_end (whole_end (length text)) room text s one two
  by true e =
      let same = within text (length text) (leb-true (length text) line_limit e) in
      rw (same ∙ take_all (length text) text (omega arith))
  by false e = rw e

-- the code's parts, each as its function says, answer as the line's call does
pub line-answers : (room : ℕ) (text : List ℕ) (m : Module) (one two : List ℕ) {o : Outcome} {e : LineEnd} {end : ℕ}
    {r : StateResult} {one' two' new old : List ℕ} →
    o ≡ guard_of m (length one) (length two) → e ≡ whole_end (length text) → end ≡ min (length text) line_limit →
    Meets result_of (guarded refused_whole o (line_end e room (take end text) m.state one two) m.state one two)
    r one' two' new old →
    Answers (line_call room text m one two) (called_with m.queue r) one' two' new old
unfolding line_call whole_line
line-answers room text m one two {o = o} guard whole end h =
    rw (← guard, guarded-queue refused_whole o _ m one two)
    (answers m.queue (rw (whole, end, whole-end room text m.state one two) at h))

-- ---- a byte

module _ (room b : ℕ) (mark : Bool) (m : Module) (one two : List ℕ) (step : QueueStep) where
  -- the queue's bytes and the queue after the step
  abbrev stored : List ℕ
  stored = bytes_with step.stores m.queue.len b m.queue.bytes

  abbrev queued : Queue
  queued = queue_of stored step.len step.discarding

  guarded-byte : (o : Outcome) →
      GuardedStep o m.queue.len m.queue.discarding m.state.installation.port b mark step →
      let end = line_end step.ending room (take step.line stored) m.state one two in
      guarded refused_whole o (byte_received room b mark m one two) m one two
      ≡ with_queue queued (guarded refused_whole o end m.state one two)
  unfolding guarded GuardedStep byte_received received_call
  guarded-byte (Ok _) g = rw (g.received m.queue.bytes, g.run stored)
  guarded-byte (Err r) g = rw g

-- the code's parts, each as its function says, answer as the byte's call does
pub byte-answers : (room b : ℕ) (mark : Bool) (m : Module) (one two : List ℕ) (step : QueueStep) {o : Outcome}
    {bytes : List ℕ} {end : ℕ} {r : StateResult} {one' two' new old : List ℕ} → length m.queue.bytes ≡ line_limit →
    o ≡ guard_of m (length one) (length two) →
    GuardedStep o m.queue.len m.queue.discarding m.state.installation.port b mark step →
    bytes ≡ bytes_with step.stores m.queue.len b m.queue.bytes → end ≡ min step.line line_limit →
    Meets result_of
    (guarded refused_whole o (line_end step.ending room (take end bytes) m.state one two) m.state one two)
    r one' two' new old →
    Answers (byte_call room b mark m one two) (called_with (queue_of bytes step.len step.discarding) r)
    one' two' new old
unfolding byte_call
byte-answers room b mark m one two step {o = o} {bytes = bytes} long guard stepped stored end h =
    let same = stored-length step.stores m.queue.len b m.queue.bytes in
    let many : length bytes ≡ line_limit = rw stored same ∙ long in
    let text = within bytes step.line (omega arith) in
    rw (← guard, guarded-byte room b mark m one two step o stepped, ← stored)
    (answers (queue_of bytes step.len step.discarding) (rw (end, text) at h))

-- ---- an event

-- the code's parts, each as its function says, are what the event's call is
pub event-answers : (e : Event) (m : Module) (one two : List ℕ) {o : Outcome} {h : EventEffect} {one' two' : List ℕ} →
    o ≡ guard_of m (length one) (length two) →
    Meets event_effect (guarded Err o (event_of e m.state one two) m.state one two) h one' two' [] [] →
    let taken : EventResult = record { after = record { queue = m.queue; state = h.state }; outcome = h.outcome } in
    Meets event_result (event_call e m one two) taken one' two' [] []
    × (number_of h.outcome ≡ number_of (event_call e m one two).report)
unfolding event_call
event-answers e m one two {o = o} guard h =
    let report = ap (λ r. r.outcome) h.result in
    rw (← guard, guarded-queue Err o _ m one two) (
      record { result = rw h.result; first = h.first; second = h.second; reply = h.reply },
      ap number_of report,
    )
