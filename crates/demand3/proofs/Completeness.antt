-- A course that is refused where the check stops.
use Prim.Native.Nat.{ℕ, zero, suc}
use native.Mathlib.Omega.{arith}
use mathlib.Core.Bool.{true, false}
use mathlib.Core.Path.{◌≡◌, refl, sym, ◌∙◌}
use mathlib.Core.Logic.{◌≢◌}
use mathlib.Core.List.{List, [], ◌∷◌}
use Rattle.outcome.specs.declared.Refusal.{Refusal}
use Rattle.outcome.specs.declared.Refusal.TheVariants.{NoReset, LongScriptLine}
use Rattle.settings.specs.Valid.{values_valid}
use Rattle.event.specs.Event.{event_of}
use Rattle.event.specs.declared.Event.TheVariants.{Trigger, Measured}
use Rattle.state.proofs.Sound.{sound}
use Rattle.line.specs.Line.{start_line, line_of}
use Rattle.line_text.specs.Texts.{texts_of}
use Rattle.outcome.specs.Answer.{passed, refused_at}
use Rattle.extreme_courses.specs.Model.{OfModel}
use Rattle.extreme_courses.specs.declared.Model.{Model}
use Rattle.extreme_courses.specs.Extremes.{before_line, measured_high}
use Rattle.extreme_courses.specs.declared.Extremes.{Extremes}
use Rattle.script.specs.Check.{line_answer, line_after, stop, finding}
use Rattle.demand3.specs.Course.{World, line_in, after_line, after_event, after_events, LineInput, LineInputs, InputsFit, room_too_small}
use Rattle.demand3.specs.Course.{RoomsSuffice, answer_of}
use Rattle.demand3.proofs.SameButTimeConstant.{Alike}
use Rattle.demand3.proofs.FirstRefusal.{found_here, found_later, end-stop}
use Rattle.demand3.proofs.LongLines.{passed-short, refused-short}
use Rattle.demand3.proofs.Soundness.{Open, open_valid, line_open, event_open, event_is, line-short, events_open}
use Rattle.demand3.proofs.Witness.{Side, low, high, At, at_run, run-refuses, highest, events_of, events_fit}
use Rattle.demand3.proofs.Witness.{measured_at, triggered_at}
use Rattle.demand3.proofs.Sizes.{Sized, measured_sized, trigger_sized}
use Rattle.demand3.proofs.ReplyRooms.{enough, room_enough, line_sized}

open_kept : (w : World) → Open w → values_valid w.core.state.settings ≡ true
open_kept w o = (sound w.core.state (open_valid w o)).tuned.values

-- ---- before a line

at_event : (d : Side) (model : Model) (b : Extremes) (w : World) → Open w → At d model b w.core.state
    → At d model (before_line model b) (after_events (events_of d b) w).core.state
unfolding events_of after_events before_line
at_event low model b w o i = record { same = i.same; alike = i.alike; acquisition = i.acquisition }
at_event high model b w o i =
    let x = b.settings in
    let s = w.core.state in
    let v = after_event (Measured (highest x)) w in
    let m = measured_at x s i.alike (open_kept w o) b.high i.acquisition in
    let e = event_is w o (Measured (highest x)) in
    let p : (v.core.state.installation ≡ s.installation) × Alike v.core.state.settings x
    × (v.core.state.acquisition ≡ measured_high x b.high) =
    rw e (unfold event_of in m)
    in
    let c : OfModel model v.core.state.installation = rw p.0 i.same in
    let t = triggered_at model x v.core.state (measured_high x b.high) v.one v.two c p.1 p.2 in
    let f = event_is v (event_open w o (Measured (highest x))) Trigger in
    record { same = rw (f, t.0) c; alike = rw f t.1; acquisition = rw f t.2 }

-- ---- lines

module _ (model : Model) (b : Extremes) (l : List ℕ) where
  -- in the course of a side, where the events before the line have happened and the room is enough for it
  abbrev Ran : Side → (World → ℕ → Type 0) → Type 0
  Ran d Then =
      (w : World) → Open w → At d model (before_line model b) w.core.state → (room : ℕ) → room_too_small room l w ≡ false
      → Then w room

  -- the line leaves the course where the check goes, or is refused in it
  line_at : (d : Side) → line_answer model l b ≡ passed
      → Ran d (λ w room. At d model (line_after model l b) (after_line room l w).core.state)
  unfolding line_of
  line_at d e w o i room c =
      let p = passed-short model l b e in
      let s = line-short w o room l p.0 in
      let run = start_line w.core.state w.one w.two in
      rw s.1 (at_run d model room (texts_of l) run (before_line model b) 1 i (sym s.2 ∙ c) p.1)

  line-refuses : (r : Refusal) (p : ℕ) → line_answer model l b ≡ refused_at r p → r ≢ NoReset → r ≢ LongScriptLine
      → (d : Side) × Ran d (λ w room. (line_in room l w).report.answer ≡ refused_at r p)
  unfolding line_of
  line-refuses r p e x y =
      let q = refused-short model l b r p y e in
      let k = run-refuses model (before_line model b) 0 (texts_of l) r p q.1 x in (
        k.0,
        λ w o i room c.
            let s = line-short w o room l q.0 in
            s.0 ∙ (k.1 room (start_line w.core.state w.one w.two) refl refl i (sym s.2 ∙ c)),
      )

-- ---- a whole course of that side

events_sized : (d : Side) (b : Extremes) (w : World) → Open w → Sized w.core.state
    → Sized (after_events (events_of d b) w).core.state
unfolding events_of after_events
events_sized low b w o k = k
events_sized high b w o k =
    let m = Measured (highest b.settings) in
    let v = after_event m w in
    let f = highest b.settings in
    let n : Sized v.core.state = rw (event_is w o m) (measured_sized f w.core.state w.one w.two k) in
    rw (event_is v (event_open w o m) Trigger) (trigger_sized v.core.state v.one v.two n)

abbrev input_for : Side → Extremes → LineInput
input_for d b = record { events = events_of d b; room = enough }

pub inputs_for : Side → Model → (ls : List (List ℕ)) → Extremes → LineInputs ls
inputs_for d model [] b = tt
inputs_for d model (l ∷ ls) b = (input_for d b, inputs_for d model ls (line_after model l b))

pub inputs_roomy : (d : Side) (model : Model) (ls : List (List ℕ)) (b : Extremes) (w : World) → Open w
    → Sized w.core.state
    → RoomsSuffice ls (inputs_for d model ls b) w
unfolding inputs_for
inputs_roomy d model [] b w o k = tt
inputs_roomy d model (l ∷ ls) b w o k =
    let v = after_events (events_of d b) w in
    let u = events_open (events_of d b) w o in
    let n = events_sized d b w o k in (
      room_enough l v u n,
      inputs_roomy d model ls (line_after model l b) (after_line enough l v) (line_open v u enough l)
          (line_sized l v u n),
    )

pub inputs_fit : (d : Side) (model : Model) (ls : List (List ℕ)) (b : Extremes) → InputsFit ls (inputs_for d model ls b)
unfolding inputs_for
inputs_fit d model [] b = tt
inputs_fit d model (l ∷ ls) b =
    (record { events = events_fit d b; room = omega arith }, inputs_fit d model ls (line_after model l b))

pub reached : (model : Model) (ls : List (List ℕ)) (b : Extremes) (k p : ℕ) (r : Refusal)
    → finding model ls b ≡ stop k p r → r ≢ NoReset → r ≢ LongScriptLine
    → (d : Side) × ((w : World) → Open w → RoomsSuffice ls (inputs_for d model ls b) w → At d model b w.core.state
    → answer_of ls (inputs_for d model ls b) w k ≡ refused_at r p)
unfolding answer_of inputs_for
reached model [] b k p r e x y = end-stop model b k p r e
reached model (l ∷ ls) b zero p r e x y =
    let f = line-refuses model b l r p (found_here model l ls b p r e) x y in (
      f.0,
      λ w o c i.
          let v = after_events (events_of f.0 b) w in
          f.1 v (events_open (events_of f.0 b) w o) (at_event f.0 model b w o i) enough c.0,
    )
reached model (l ∷ ls) b (suc k) p r e x y =
    let q = found_later model l ls b (stop k p r) e in
    let f = reached model ls (line_after model l b) k p r q.1 x y in (
      f.0,
      λ w o c i.
          let v = after_events (events_of f.0 b) w in
          let u = events_open (events_of f.0 b) w o in
          f.1 (after_line enough l v) (line_open v u enough l) c.1
          (line_at model b l f.0 q.0 v u (at_event f.0 model b w o i) enough c.0),
    )
