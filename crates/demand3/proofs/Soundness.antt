-- Every course against what the check finds: each line that it passes passes, and the line where it stops has no
-- refusal at an earlier place.
use Prim.Native.Nat.{ℕ, zero, suc, ◌≤◌}
use native.Mathlib.Omega.{arith}
use mathlib.Core.Bool.{Bool, true, false, cond, and-eq-true_iff}
use mathlib.Core.Path.{◌≡◌, refl, sym, ap, ◌∙◌}
use mathlib.Core.List.{List, [], ◌∷◌}
use lib.ListN.{length}
use borrow.Author.Tests.{ltb-true, ltb-false, le-leb, lt-leb}
use Rattle.std.specs.Prelude.{Err}
use Rattle.outcome.specs.declared.Refusal.{Refusal}
use Rattle.outcome.specs.declared.Refusal.TheVariants.{LongLine, BadState}
use Rattle.outcome.specs.Code.{Outcome, done}
use Rattle.outcome.specs.Answer.{passed, refused_at}
use Rattle.state.specs.Valid.{valid_state}
use Rattle.state.specs.declared.State.{State}
use Rattle.event.specs.Event.{event_of}
use Rattle.event.specs.declared.Event.{Event}
use Rattle.line.specs.Line.{Line, start_line, line_of}
use Rattle.line_text.specs.Texts.{texts_of}
use Rattle.module.specs.Module.{valid_module, guard_of}
use Rattle.lockin.specs.Calls.{guarded, line_end, whole_end, whole_line, line_call, event_call}
use Rattle.extreme_courses.specs.declared.Model.{Model}
use Rattle.extreme_courses.specs.Extremes.{before_line}
use Rattle.extreme_courses.specs.declared.Extremes.{Extremes}
use Rattle.script.specs.Check.{line_too_long, line_answer, line_after, stop, finding}
use Rattle.invariant.proofs.States.{states_stay}
use Rattle.invariant.proofs.StaysValid.{stays-valid}
use Rattle.demand3.specs.Course.{World, line_in, after_line, after_event, after_events, LineInput, LineInputs, before, after}
use Rattle.demand3.specs.Course.{room_too_small, RoomsSuffice, answer_of}
use Rattle.demand3.proofs.EventStep.{Ready, Within, event_ready, event-within}
use Rattle.demand3.proofs.FirstRefusal.{not-passed, not_done, found_here, found_later, Passes, passes-here, passes-next}
use Rattle.demand3.proofs.Commands.{Sim, run-passed, run-earlier}
use Rattle.demand3.proofs.LongLines.{passed-short, refused_split}
use Rattle.queue.specs.Queue.{line_limit}

-- neither 11 nor 9 refuses a call
abbrev pub Open : World → Type 0
Open w = guard_of w.core (length w.one) (length w.two) ≡ done

pub open_valid : (w : World) → Open w → valid_state w.core.state ≡ true
unfolding guard_of valid_module
open_valid w o = ((and-eq-true_iff (valid_state w.core.state) _).0 (by (valid_module w.core) _ o)).0 where
  by : (t : Bool) (u : Outcome) → cond t u (Err BadState) ≡ done → t ≡ true
  by true u e = refl
  by false u e = not_done BadState e

module _ (w : World) (o : Open w) where
  pub line_open : (room : ℕ) (l : List ℕ) → Open (after_line room l w)
  unfolding after_line
  line_open room l = (stays-valid.line room l w.core w.one w.two).next o

  pub event_open : (e : Event) → Open (after_event e w)
  unfolding after_event
  event_open e = (stays-valid.event e w.core w.one w.two).next o

  -- then an event is taken, and a line runs or is too long
  pub event_is : (e : Event) → (after_event e w).core.state ≡ (event_of e w.core.state w.one w.two).after
  unfolding after_event event_call guarded
  event_is e = rw o refl

  pub line-short : (room : ℕ) (l : List ℕ) → line_too_long l ≡ false →
      let ran = line_of room l w.core.state w.one w.two in
      ((line_in room l w).report.answer ≡ ran.report.answer) × ((after_line room l w).core.state ≡ ran.after)
      × (room_too_small room l w ≡ ran.report.dropped)
  unfolding after_line line_call guarded whole_line whole_end line_end room_too_small
  line-short room l e = rw (o, le-leb (length l) line_limit (ltb-false line_limit (length l) e)) (refl, refl, refl)

  pub line-long : (room : ℕ) (l : List ℕ) → line_too_long l ≡ true
      → (line_in room l w).report.answer ≡ refused_at LongLine 0
  unfolding line_call guarded whole_line whole_end line_end
  line-long room l e = rw (o, lt-leb (length l) line_limit (ltb-true line_limit (length l) e)) refl

pub events_open : (es : List Event) (w : World) → Open w → Open (after_events es w)
unfolding after_events
events_open [] w o = o
events_open (e ∷ es) w o = events_open es (after_event e w) (event_open w o e)

-- ---- events

events-same : (es : List Event) (w : World) → Open w → (after_events es w).core.state.installation ≡ w.core.state.installation
unfolding after_events
events-same [] w o = refl
events-same (e ∷ es) w o =
    events-same es (after_event e w) (event_open w o e)
    ∙ (ap (λ (s : State). s.installation) (event_is w o e) ∙ (states_stay.event e w.core.state w.one w.two).installation)

events-within : (model : Model) (b : Extremes) → Ready b.settings b.high → (es : List Event) (w : World) → Open w
    → Within model b.settings b.low b.high w.core.state
    → Within model b.settings b.low b.high (after_events es w).core.state
unfolding after_events
events-within model b r [] w o k = k
events-within model b r (e ∷ es) w o k =
    let n = event-within model b.settings b.low b.high r w.core.state k e w.one w.two in
    events-within model b r es (after_event e w) (event_open w o e) (rw (event_is w o e) n)

sim_event : (model : Model) (b : Extremes) (es : List Event) (w : World) → Open w → Sim model b w.core.state
    → Sim model (before_line model b) (after_events es w).core.state
unfolding before_line
sim_event model b es w o i =
    record {
      same = rw (events-same es w o) i.same;
      begun = λ e.
          let k = i.begun e in
          let g = event_ready model.capacity b.settings w.core.state.acquisition b.low b.high k.between in
          events-within model (before_line model b) (unfold before_line in g.1) es w o
          (unfold before_line in record { same = k.same; alike = k.alike; between = g.0 });
    }

-- ---- a line of a course, with its events

module _ (model : Model) (b : Extremes) (w : World) (o : Open w) (i : Sim model b w.core.state) (g : LineInput) (l : List ℕ)
    (c : room_too_small g.room l (before g w) ≡ false)
  where
    open_before : Open (before g w)
    open_before = events_open g.events w o

    open_after : Open (after g l w)
    open_after = line_open (before g w) open_before g.room l

    abbrev begin : Line
    begin = start_line (before g w).core.state (before g w).one (before g w).two

    sim_before : Sim model (before_line model b) begin.after
    sim_before = sim_event model b g.events w o i

    next-passed : line_answer model l b ≡ passed
        → ((line_in g.room l (before g w)).report.answer ≡ passed)
        × Sim model (line_after model l b) (after g l w).core.state
    unfolding line_of
    next-passed e =
        let p = passed-short model l b e in
        let s = line-short (before g w) open_before g.room l p.0 in
        rw (s.0, s.1)
        (run-passed model g.room (texts_of l) begin (before_line model b) sim_before refl (sym s.2 ∙ c) p.1)

    next-earlier : (r s : Refusal) (p q : ℕ) → line_answer model l b ≡ refused_at r p
        → (line_in g.room l (before g w)).report.answer ≡ refused_at s q → p ≤ q
    unfolding line_of
    next-earlier r s p q e f =
        refused_split model l b r p (p ≤ q) e (λ t z y. omega arith)
        (λ t y z.
        let h = line-short (before g w) open_before g.room l t in
        run-earlier model g.room (texts_of l) begin (before_line model b) r s p q sim_before refl (sym h.2 ∙ c) y
        (sym h.0 ∙ f))

-- ---- scripts

pub script-passes : (model : Model) (ls : List (List ℕ)) (b : Extremes) (w : World) (g : LineInputs ls) → Open w
    → Sim model b w.core.state → RoomsSuffice ls g w → (n : ℕ) → Passes (finding model ls b) n
    → answer_of ls g w n ≡ passed
unfolding answer_of
script-passes model [] b w g o i c n h = refl
script-passes model (l ∷ ls) b w g o i c zero h =
    (next-passed model b w o i g.0 l c.0 (passes-here model l ls b zero h)).0
script-passes model (l ∷ ls) b w g o i c (suc n) h =
    let k = next-passed model b w o i g.0 l c.0 (passes-here model l ls b (suc n) h) in
    script-passes model ls (line_after model l b) (after g.0 l w) g.1 (open_after model b w o i g.0 l c.0)
    k.1 c.1 n (passes-next model l ls b n h)

pub script-earlier : (model : Model) (ls : List (List ℕ)) (b : Extremes) (w : World) (g : LineInputs ls) → Open w
    → Sim model b w.core.state → RoomsSuffice ls g w → (k p : ℕ) (r : Refusal) → finding model ls b ≡ stop k p r
    → (q : ℕ) (s : Refusal) → answer_of ls g w k ≡ refused_at s q → p ≤ q
unfolding answer_of
script-earlier model [] b w g o i c k p r e q s f = not-passed s q (sym f)
script-earlier model (l ∷ ls) b w g o i c zero p r e q s f =
    next-earlier model b w o i g.0 l c.0 r s p q (found_here model l ls b p r e) f
script-earlier model (l ∷ ls) b w g o i c (suc k) p r e q s f =
    let y = found_later model l ls b (stop k p r) e in
    let m = next-passed model b w o i g.0 l c.0 y.0 in
    script-earlier model ls (line_after model l b) (after g.0 l w) g.1 (open_after model b w o i g.0 l c.0)
    m.1 c.1 k p r y.1 q s f
