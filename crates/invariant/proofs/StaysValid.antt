-- Every call leads from a valid module to a valid one. Assumes nothing.
use Prim.Native.Nat.{ℕ, ◌-◌}
use native.Mathlib.Omega.{arith}
use mathlib.Core.Path.{◌≡◌, refl, sym, ◌∙◌}
use mathlib.Core.Bool.{Bool, true, false, cond, ◌&&◌, ◌||◌, and-eq-true_iff}
use mathlib.Core.List.{List, [], ◌∷◌}
use lib.Dec.{leb, ltb, eqb}
use lib.ListN.{length, length-set}
use borrow.Author.Tests.{eqb-true, eq-eqb}
use Rattle.std.specs.Prelude.{Ok, Err}
use Rattle.laws.proofs.Tests.{cond_by}
use Rattle.outcome.specs.declared.Refusal.{Refusal}
use Rattle.outcome.specs.declared.Refusal.TheVariants.{LongLine, BadTraces, BadStart, BadState}
use Rattle.outcome.specs.Code.{Outcome}
use Rattle.outcome.specs.Code as outcome
use Rattle.state.specs.State.{installation_of, start_state, with_error_bit}
use Rattle.state.specs.Valid.{installation_valid, valid_state}
use Rattle.state.specs.declared.Installation.{Installation}
use Rattle.state.specs.declared.State.{State}
use Rattle.state.proofs.Sound.{start-valid}
use Rattle.queue.specs.Queue as queue
use Rattle.queue.specs.declared.Queue.{Queue}
use Rattle.queue.specs.declared.LineEnd.{LineEnd}
use Rattle.queue.specs.declared.LineEnd.TheVariants as ending
use Rattle.queue.proofs.Preserved.{empty_keeps, emptied_keeps, received_keeps}
use Rattle.line.specs.Line.{line_of}
use Rattle.event.specs.Event.{event_of}
use Rattle.event.specs.declared.Event.{Event}
use Rattle.module.specs.Start.{installation_known, traces_fit, fresh_module}
use Rattle.module.specs.Module.{valid_module, guard_of}
use Rattle.module.specs.declared.Module.{Module}
use Rattle.lockin.specs.declared.StartResult.{StartResult}
use Rattle.lockin.specs.Start.{refused_start, start_call}
use Rattle.reply_buffer.specs.After.{After}
use Rattle.lockin.specs.Calls.{with_queue, guarded, refused_whole, line_end, whole_line, line_call, received_call, byte_received}
use Rattle.lockin.specs.Calls.{byte_call, event_call}
use Rattle.lockin.specs.Run.{Run, replied_length, next_byte, stops_at, mark_before, run_from, start_run, refused_run, run_call}
use Rattle.invariant.specs.States.{StatePreserved}
use Rattle.invariant.specs.StaysValid.{ModulePreserved, Reachable, by_start, by_line, by_byte, by_run, by_event, StaysValid}
use Rattle.invariant.proofs.Change.{marked-stays}
use Rattle.invariant.proofs.States.{states_stay}

-- ---- refusals 11 and 9

pub record Passes (m : Module) (first second : ℕ) : Type 0 where
  pub valid : valid_module m ≡ true
  pub first_fits : eqb first m.state.installation.capacity ≡ true
  pub second_fits : eqb second m.state.installation.capacity ≡ true

pub refused_never : {A : Type 0} (r : Refusal) → ◌≡◌ {A = Outcome} (Err r) outcome.done → A
refused_never r p = let z : ◌≡◌ {A = ℕ} 0 1 = cc in absurd (omega arith)

pub passes : (m : Module) (first second : ℕ) → guard_of m first second ≡ outcome.done → Passes m first second
unfolding guard_of
passes m first second = by (valid_module m) (eqb first m.state.installation.capacity) (eqb second m.state.installation.capacity) refl refl refl where
  by : (a b c : Bool) → valid_module m ≡ a → eqb first m.state.installation.capacity ≡ b → eqb second m.state.installation.capacity ≡ c
      → cond a (cond (b && c) outcome.done (Err BadTraces)) (Err BadState) ≡ outcome.done → Passes m first second
  by true true true p q r e = record { valid = p; first_fits = q; second_fits = r }
  by true true false p q r e = refused_never BadTraces e
  by true false c p q r e = refused_never BadTraces e
  by false b c p q r e = refused_never BadState e

passed : (m : Module) (first second : ℕ) → Passes m first second → guard_of m first second ≡ outcome.done
unfolding guard_of
passed m first second k = rw (k.valid, k.first_fits, k.second_fits)

-- ---- the start

module _ (u : Installation) (k : installation_valid u ≡ true) where
  fresh-valid : valid_module (fresh_module u) ≡ true
  unfolding valid_module fresh_module
  fresh-valid = rw (start-valid u k, empty_keeps (start_state u).installation.port)

start_known : (serial port first second : ℕ) → installation_known serial port ≡ true → traces_fit first second ≡ true
    → installation_valid (installation_of serial port first) ≡ true
unfolding installation_known traces_fit installation_valid
start_known serial port first second p q =
    let installation = (and-eq-true_iff (leb serial 99999) (leb port 1)).0 p in
    let traces = (and-eq-true_iff (eqb first second) (leb 1 first && leb first 16383)).0 q in
    rw (installation.0, installation.1) traces.1

refused-valid : valid_module (fresh_module (installation_of 0 1 1)) ≡ true
unfolding installation_valid
refused-valid = fresh-valid (installation_of 0 1 1) refl

start-passes : (serial port first second : ℕ) → installation_known serial port ≡ true → traces_fit first second ≡ true
    → Passes (fresh_module (installation_of serial port first)) first second
unfolding fresh_module start_state traces_fit
start-passes serial port first second p q =
    let same = eqb-true first second ((and-eq-true_iff (eqb first second) (leb 1 first && leb first 16383)).0 q).0 in
    record {
      valid = fresh-valid (installation_of serial port first) (start_known serial port first second p q);
      first_fits = eq-eqb first first refl;
      second_fits = eq-eqb second first (sym same);
    }

-- a start, by the tests that decide it
module _ (serial port first second : ℕ) (P : StartResult → Type 0)
    (refused : (r : Refusal) → P (refused_start r))
    (done : installation_known serial port ≡ true → traces_fit first second ≡ true
    → P (record { after = fresh_module (installation_of serial port first); outcome = outcome.done }))
  where
    pub start_by : P (start_call serial port first second)
    unfolding start_call
    start_by = by (installation_known serial port) (traces_fit first second) refl refl where
      by : (a b : Bool) → installation_known serial port ≡ a → traces_fit first second ≡ b
          → P (cond a (cond b (record { after = fresh_module (installation_of serial port first); outcome = outcome.done }) (refused_start BadTraces)) (refused_start BadStart))
      by true true p q = done p q
      by true false p q = refused BadTraces
      by false b p q = refused BadStart

fresh-queued : (u : Installation) → length (fresh_module u).queue.bytes ≡ queue.line_limit
unfolding fresh_module
fresh-queued u = refl

-- valid, with the queue's 256 bytes
abbrev Whole : Module → Type 0
Whole m = (valid_module m ≡ true) × (length m.queue.bytes ≡ queue.line_limit)

start-made : (serial port first second : ℕ) → Whole (start_call serial port first second).after
start-made serial port first second =
    start_by serial port first second (λ s. Whole s.after)
    (λ r. (refused-valid, fresh-queued (installation_of 0 1 1)))
    (λ p q. ((start-passes serial port first second p q).valid, fresh-queued (installation_of serial port first)))

start_goes : (serial port first second : ℕ) → (start_call serial port first second).outcome ≡ outcome.done
    → guard_of (start_call serial port first second).after first second ≡ outcome.done
start_goes serial port first second =
    start_by serial port first second (λ s. s.outcome ≡ outcome.done → guard_of s.after first second ≡ outcome.done) (λ r e. refused_never r e)
    (λ p q e. passed (fresh_module (installation_of serial port first)) first second (start-passes serial port first second p q))

-- ---- calls

-- another state and another queue
module_valid : (m : Module) (t : State) (q : Queue) → (valid_state m.state ≡ true → valid_state t ≡ true) → t.installation ≡ m.state.installation
    → (queue.is_valid m.queue m.state.installation.port ≡ true → queue.is_valid q m.state.installation.port ≡ true)
    → valid_module m ≡ true → valid_module (record { state = t; queue = q }) ≡ true
unfolding valid_module
module_valid m t q a u k h =
    let both = (and-eq-true_iff (valid_state m.state) (queue.is_valid m.queue m.state.installation.port)).0 h in
    rw (a both.0, u) (k both.1)

module_goes : (m : Module) (t : State) (q : Queue) (one two first second : List ℕ) → StatePreserved m.state t one two first second
    → (queue.is_valid m.queue m.state.installation.port ≡ true → queue.is_valid q m.state.installation.port ≡ true)
    → length q.bytes ≡ length m.queue.bytes → ModulePreserved m (record { state = t; queue = q }) one two first second
module_goes m t q one two first second s k l =
    record {
      valid = module_valid m t q s.valid s.installation k;
      next = λ e.
          let p = passes m (length one) (length two) e in
          passed (record { state = t; queue = q }) (length first) (length second)
          (record {
            valid = module_valid m t q s.valid s.installation k p.valid;
            first_fits = rw (s.first-length, s.installation) p.first_fits;
            second_fits = rw (s.second-length, s.installation) p.second_fits;
          });
      queued = l;
    }

same_goes : (m : Module) (one two : List ℕ) → ModulePreserved m m one two one two
same_goes m one two = record { valid = λ h. h; next = λ h. h; queued = refl }

marked-state : (r : Refusal) (s : State) (one two : List ℕ) → StatePreserved s (with_error_bit r s) one two one two
unfolding with_error_bit
marked-state r s one two = record { valid = λ h. marked-stays s h r; installation = refl; first-length = refl; second-length = refl }

-- a call on a module and its traces leads on
abbrev On : {R : Type 0} → Module → List ℕ → List ℕ → After Module R → Type 0
On m one two c = ModulePreserved m c.after one two c.one c.two

guarded_goes : {R : Type 0} (report : Refusal → R) (o : Outcome) (c : After Module R) (m : Module) (one two : List ℕ) →
    On m one two c → On m one two (guarded report o c m one two)
unfolding guarded
guarded_goes report (Ok _) c m one two g = g
guarded_goes report (Err r) c m one two g = same_goes m one two

-- a queue that is as valid as the module's was, with as many bytes
record Follows (m : Module) (q : Queue) : Type 0 where
  kept : queue.is_valid m.queue m.state.installation.port ≡ true → queue.is_valid q m.state.installation.port ≡ true
  queued : length q.bytes ≡ length m.queue.bytes

-- what comes of a line's end, with any text
end_goes : (e : LineEnd) (room : ℕ) (text : List ℕ) (m : Module) (q : Queue) (one two : List ℕ) → Follows m q →
    On m one two (with_queue q (line_end e room text m.state one two))
unfolding line_end
end_goes ending.Nothing room text m q one two f =
    module_goes m m.state q one two one two
    (record { valid = λ h. h; installation = refl; first-length = refl; second-length = refl }) f.kept f.queued
end_goes ending.Line room text m q one two f =
    let l = line_of room text m.state one two in
    module_goes m l.after q one two l.one l.two (states_stay.line room text m.state one two)
    f.kept f.queued
end_goes ending.TooLong room text m q one two f =
    module_goes m (with_error_bit LongLine m.state) q one two one two (marked-state LongLine m.state one two)
    f.kept f.queued

line_goes : (room : ℕ) (bytes : List ℕ) (m : Module) (one two : List ℕ) → On m one two (line_call room bytes m one two)
unfolding line_call whole_line
line_goes room bytes m one two =
    guarded_goes refused_whole (guard_of m (length one) (length two)) _ m one two
    (end_goes _ room bytes m m.queue one two (record { kept = λ k. k; queued = refl }))

-- the queue's bytes stay as many
received-length : (q : Queue) (port b : ℕ) (mark : Bool) → length (queue.received_of q port b mark).queue.bytes ≡ length q.bytes
unfolding queue.received_of queue.dropped_of queue.appended_of queue.too_long_of
received-length q port b mark = by q.discarding (queue.ends_line port b) (ltb q.len queue.line_limit) where
  by : (d e l : Bool) →
      length
      (cond d (queue.dropped_of q (queue.ends_line port b || queue.is_marked port mark))
      (cond e (record { queue = q; ending = ending.Line })
      (cond l (record { queue = queue.longer q b; ending = cond (queue.is_marked port mark) ending.Line ending.Nothing })
      (queue.too_long_of q (queue.is_marked port mark))))).queue.bytes
      ≡ length q.bytes
  by true e l = refl
  by false true l = refl
  by false false true = length-set q.bytes q.len b
  by false false false = refl

-- the queue once a line that ended has run
run_follows : (e : LineEnd) (m : Module) (q : Queue) → Follows m q → Follows m (queue.after_run e q)
run_follows ending.Nothing m q f = f
run_follows ending.Line m q f = record { kept = λ h. emptied_keeps q m.state.installation.port; queued = f.queued }
run_follows ending.TooLong m q f = f

-- a byte, where 11 and 9 are not asked
received_goes : (room b : ℕ) (mark : Bool) (m : Module) (one two : List ℕ) → length m.queue.bytes ≡ queue.line_limit →
    On m one two (byte_received room b mark m one two)
unfolding byte_received received_call
received_goes room b mark m one two long =
    let port = m.state.installation.port in
    let received = queue.received_of m.queue port b mark in
    let follows : Follows m received.queue = record {
      kept = λ k. received_keeps m.queue port k b mark long;
      queued = received-length m.queue port b mark;
    } in
    end_goes received.ending room _ m _ one two (run_follows received.ending m received.queue follows)

byte_goes : (room b : ℕ) (mark : Bool) (m : Module) (one two : List ℕ) → length m.queue.bytes ≡ queue.line_limit →
    On m one two (byte_call room b mark m one two)
unfolding byte_call
byte_goes room b mark m one two long =
    guarded_goes refused_whole (guard_of m (length one) (length two)) _ m one two
    (received_goes room b mark m one two long)

-- ---- a run of bytes

-- one call after the other
then_goes : (l m n : Module) (one two first second third fourth : List ℕ) →
    ModulePreserved l m one two first second → ModulePreserved m n first second third fourth →
    ModulePreserved l n one two third fourth
then_goes l m n one two first second third fourth f g =
    record {
      valid = λ h. g.valid (f.valid h);
      next = λ h. g.next (f.next h);
      queued = g.queued ∙ f.queued;
    }

module _ (room : ℕ) (m : Module) (one two : List ℕ) (long : length m.queue.bytes ≡ queue.line_limit) where
  next_goes : (b : ℕ) (mark : Bool) (r : Run) → On m one two r → On m one two (next_byte room b mark r)
  unfolding next_byte
  next_goes b mark r g =
      let c = byte_received (room - replied_length r) b mark r.after r.one r.two in
      then_goes m r.after c.after one two r.one r.two c.one c.two g
      (received_goes (room - replied_length r) b mark r.after r.one r.two (g.queued ∙ long))

  bytes_go : (mark : Bool) (bytes : List ℕ) (r : Run) → On m one two r → On m one two (run_from room mark bytes r)
  unfolding run_from
  bytes_go mark [] r g = g
  bytes_go mark (b ∷ more) r g =
      let marked = mark_before mark more in
      cond_by (λ (x : Run). On m one two x) (stops_at room b marked r) (λ e. g)
      (λ e. bytes_go mark more (next_byte room b marked r) (next_goes b marked r g))

  run_goes : (bytes : List ℕ) (mark : Bool) → On m one two (run_call room bytes mark m one two)
  unfolding run_call
  run_goes bytes mark =
      guarded_goes refused_run (guard_of m (length one) (length two)) _ m one two
      (bytes_go mark bytes (start_run m one two) (same_goes m one two))

event_goes : (e : Event) (m : Module) (one two : List ℕ) → On m one two (event_call e m one two)
unfolding event_call
event_goes e m one two =
    let o = event_of e m.state one two in
    guarded_goes Err (guard_of m (length one) (length two)) _ m one two
    (module_goes m o.after m.queue one two o.one o.two (states_stay.event e m.state one two) (λ k. k) refl)

-- ---- what we made

goes_whole : (m n : Module) (one two first second : List ℕ) → ModulePreserved m n one two first second → Whole m → Whole n
goes_whole m n one two first second g w = (g.valid w.0, g.queued ∙ w.1)

made-both : (m : Module) → Reachable m → Whole m
made-both _ (by_start serial port first second) = start-made serial port first second
made-both _ (by_line room bytes m one two k) =
    let c = line_call room bytes m one two in
    goes_whole m c.after one two c.one c.two (line_goes room bytes m one two) (made-both m k)
made-both _ (by_byte room b mark m one two k) =
    let w = made-both m k in
    let c = byte_call room b mark m one two in
    goes_whole m c.after one two c.one c.two (byte_goes room b mark m one two w.1) w
made-both _ (by_run room bytes mark m one two k) =
    let w = made-both m k in
    let c = run_call room bytes mark m one two in
    goes_whole m c.after one two c.one c.two (run_goes room m one two w.1 bytes mark) w
made-both _ (by_event e m one two k) =
    let c = event_call e m one two in
    goes_whole m c.after one two c.one c.two (event_goes e m one two) (made-both m k)

pub stays-valid : StaysValid
stays-valid =
    record {
      start = λ serial port first second. (start-made serial port first second).0;
      started = start_goes;
      queued = λ serial port first second. (start-made serial port first second).1;
      line = line_goes;
      byte = byte_goes;
      run = λ room bytes mark m one two long. run_goes room m one two long bytes mark;
      event = event_goes;
      made = λ m k. (made-both m k).0;
    }
