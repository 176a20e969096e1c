-- A line's commands in any course: what the check passes, the course passes, and no course refuses a command before the
-- one that the check refuses.
use Prim.Native.Nat.{ℕ, ◌+◌, ◌-◌, ◌≤◌}
use native.Mathlib.Omega.{arith}
use mathlib.Core.Bool.{Bool, true, false, cond, ◌&&◌, false≢true}
use mathlib.Core.Path.{◌≡◌, refl, sym, ◌∙◌}
use mathlib.Core.List.{List, [], ◌∷◌}
use lib.ListN.{length}
use Rattle.std.specs.Prelude.{Ok, Err, Some, None}
use Rattle.outcome.specs.declared.Refusal.{Refusal}
use Rattle.outcome.specs.declared.Refusal.TheVariants.{NotAllowed, NoRoom, NoReset}
use Rattle.outcome.specs.Code.{Outcome, done}
use Rattle.mnemonic.specs.declared.Action.TheVariants.{Reset, Clear, Start, Pause, Empty, Trigger}
use Rattle.command.specs.Parsed.{Parsed, parsed_of}
use Rattle.command.specs.declared.Kind.{Kind}
use Rattle.command.specs.declared.Kind.TheVariants.{Set, Query, Act}
use Rattle.state.specs.declared.State.{State}
use Rattle.precondition.specs.Allowed.{is_allowed}
use Rattle.effect.specs.Effect.{restored_by, settings_after, storage_by, restarted_by, acquisition_by}
use Rattle.effect.specs.Effect.{acquisition_after, state_after}
use Rattle.reply_buffer.specs.Buffer.{fits_in}
use Rattle.reply.specs.Reply.{reply_of}
use Rattle.line.specs.Perform.{Effect, refused_by, done_by, performed, command_of}
use Rattle.outcome.proofs.Placed.{told_place}
use Rattle.outcome.specs.Answer.{first_of, is_no_room, drops, passed, refused_at}
use Rattle.line.specs.Line.{Line, waits, after_of, after_command, run_all}
use Rattle.extreme_courses.specs.Model.{OfModel}
use Rattle.extreme_courses.specs.declared.Model.{Model}
use Rattle.extreme_courses.specs.Extremes.{resets, kind_refusal, text_refusal, kind_after, text_after}
use Rattle.extreme_courses.specs.declared.Extremes.{Extremes}
use Rattle.script.specs.Check.{texts_answer, texts_after}
use Rattle.invariant.proofs.Storable.{Storable, StorableParsed, parsed_storable}
use Rattle.demand3.proofs.SameButTimeConstant.{alike_then, alike_allows, alike_after, alike_acquisition}
use Rattle.demand3.proofs.SameButTimeConstant.{after-settings}
use Rattle.demand3.proofs.SameButTimeConstant.{after-acquisition, after-installation}
use Rattle.demand3.proofs.Simulation.{command_goes, reset_goes}
use Rattle.demand3.proofs.EventStep.{Within}
use Rattle.demand3.proofs.FirstRefusal.{not-passed, not_done, answer-passed, answer_split}

-- before the leading *RST nothing is known of a course but its model; after it, it is where the check's two courses let
-- it be
pub record Sim (model : Model) (b : Extremes) (s : State) : Type 0 where
  pub same : OfModel model s.installation
  pub begun : b.begun ≡ true → Within model b.settings b.low b.high s

-- ---- one command

-- an effect that isn't refused, and leads where the check goes
abbrev Follows : Model → Extremes → Effect → Type 0
Follows model b e = (e.report ≡ done) × Sim model b e.after

-- what the check passes: after *RST what both of its courses allow, before it *RST
pub kind_done : (b : Extremes) (kind : Kind) (Goal : Type 0) → kind_refusal kind b ≡ done
    → (b.begun ≡ true → is_allowed b.settings b.low kind ≡ true → is_allowed b.settings b.high kind ≡ true
    → Goal)
    → (resets kind ≡ true → Goal) → Goal
unfolding kind_refusal
kind_done b kind Goal =
    by b.begun (is_allowed b.settings b.low kind) (is_allowed b.settings b.high kind) (resets kind)
  where
    by : (a l h r : Bool)
        → cond a (cond (l && h) done (Err NotAllowed))
        (cond r done (Err NoReset)) ≡ done
        → (a ≡ true → l ≡ true → h ≡ true → Goal) → (r ≡ true → Goal) → Goal
    by true true true r e f g = f refl refl refl
    by true true false r e f g = not_done NotAllowed e
    by true false h r e f g = not_done NotAllowed e
    by false l h true e f g = g refl
    by false l h false e f g = not_done NoReset e

-- a command that the state allows is done, or refused by 4
pub valid-done : (P : Effect → Type 0) (room : ℕ) (waiting : Bool) (kind : Kind) (s : State) (one two : List ℕ)
    → is_allowed s.settings s.acquisition kind ≡ true
    → drops (performed room waiting kind s one two).report ≡ false
    → P (done_by kind (reply_of kind s waiting one two) s one two) → P (performed room waiting kind s one two)
unfolding performed
valid-done P room waiting kind s one two e =
    rw e (by (fits_in (reply_of kind s waiting one two) room))
  where
    by : (t : Bool)
        → drops (cond t (done_by kind (reply_of kind s waiting one two) s one two) (refused_by NoRoom s one two)).report
        ≡ false
        → P (done_by kind (reply_of kind s waiting one two) s one two)
        → P (cond t (done_by kind (reply_of kind s waiting one two) s one two) (refused_by NoRoom s one two))
    by true d p = p
    by false d p = absurd (false≢true (sym (unfold drops is_no_room in d)))

-- the state allows the command, which leads where the check goes
abbrev Lands : Model → Extremes → State → Kind → Type 0
Lands model b s kind =
    let y = settings_after kind b.settings in
    (is_allowed s.settings s.acquisition kind ≡ true)
    × Within model y (acquisition_after kind y b.low model.capacity)
    (acquisition_after kind y b.high model.capacity) (state_after kind s)

module _ (model : Model) (b : Extremes) (s : State) (i : Sim model b s) where
  -- after *RST
  begun-within : (kind : Kind) → Storable kind → b.begun ≡ true → is_allowed b.settings b.low kind ≡ true
      → is_allowed b.settings b.high kind ≡ true
      → Lands model b s kind
  begun-within kind k e l h =
      let w = i.begun e in
      let like = alike_after s.settings b.settings w.alike kind in
      let g = command_goes model.capacity b.settings s.acquisition b.low b.high
      w.between kind k l h in (
        alike_allows s.settings b.settings w.alike s.acquisition kind ∙ g.0,
        record {
          same = rw (after-installation kind s) i.same;
          alike = alike_then (after-settings kind s) like;
          between =
              rw (
                after-acquisition kind s,
                i.same.capacity,
                alike_acquisition (settings_after kind s.settings) (settings_after kind b.settings) like kind
                    s.acquisition model.capacity,
              ) g.1;
        },
      )

  -- the leading *RST, in any state
  reset_within : Lands model b s (Act Reset)
  unfolding is_allowed settings_after restored_by acquisition_after acquisition_by restarted_by storage_by
  reset_within = (
    refl,
    record {
      same = rw (after-installation (Act Reset) s) i.same;
      alike = after-settings (Act Reset) s;
      between =
          rw (after-acquisition (Act Reset) s)
          (reset_goes model.capacity b.settings s.acquisition b.low b.high).1;
    },
  )

  first-within : (kind : Kind) → resets kind ≡ true → Lands model b s kind
  unfolding resets
  first-within (Set a) e = absurd (false≢true e)
  first-within (Query q) e = absurd (false≢true e)
  first-within (Act Reset) e = reset_within
  first-within (Act Clear) e = absurd (false≢true e)
  first-within (Act Start) e = absurd (false≢true e)
  first-within (Act Pause) e = absurd (false≢true e)
  first-within (Act Empty) e = absurd (false≢true e)
  first-within (Act Trigger) e = absurd (false≢true e)

  -- either way
  kind_within : (kind : Kind) → Storable kind → kind_refusal kind b ≡ done → Lands model b s kind
  kind_within kind k e =
      kind_done b kind (Lands model b s kind) e (λ p q u. begun-within kind k p q u) (λ v. first-within kind v)

  kind_follows : (room : ℕ) (waiting : Bool) (kind : Kind) (one two : List ℕ) → Storable kind
      → kind_refusal kind b ≡ done
      → drops (performed room waiting kind s one two).report ≡ false
      → Follows model (kind_after model kind b) (performed room waiting kind s one two)
  kind_follows room waiting kind one two k e d =
      let g = kind_within kind k e in
      valid-done (Follows model (kind_after model kind b)) room waiting kind s one two g.0 d
      (unfold done_by kind_after in (refl, record { same = g.1.same; begun = λ z. g.1 }))

  parsed_follows : (room : ℕ) (waiting : Bool) (p : Parsed) (one two : List ℕ) → StorableParsed p
      → text_refusal p b ≡ done
      → drops (command_of room waiting p s one two).report ≡ false
      → Follows model (text_after model p b) (command_of room waiting p s one two)
  unfolding text_refusal text_after command_of
  parsed_follows room waiting (Ok None) one two k e d = (refl, i)
  parsed_follows room waiting (Err r) one two k e d = not_done _ e
  parsed_follows room waiting (Ok (Some c)) one two k e d = kind_follows room waiting c.kind one two k e d

-- ---- a line's commands

-- a line whose last command isn't refused by 4 goes on after each
kept_rest : (next rest : Line) → (cond next.report.dropped next rest).report.dropped ≡ false
    → (next.report.dropped ≡ false) × (cond next.report.dropped next rest ≡ rest)
kept_rest next rest = by next.report.dropped refl where
  by : (t : Bool) → next.report.dropped ≡ t → (cond t next rest).report.dropped ≡ false
      → (next.report.dropped ≡ false) × (cond t next rest ≡ rest)
  by true p e = absurd (false≢true (sym (sym p ∙ e)))
  by false p e = (p, refl)

module _ (room : ℕ) (t : List ℕ) (ts : List (List ℕ)) (l : Line) where
  pub run_rest : (run_all room (t ∷ ts) l).report.dropped ≡ false
      → ((after_command room t l).report.dropped ≡ false) ×
      (run_all room (t ∷ ts) l ≡ run_all room ts (after_command room t l))
  unfolding run_all
  run_rest = kept_rest (after_command room t l) (run_all room ts (after_command room t l))

-- the effect of a line's next command
abbrev pub effect_in : ℕ → List ℕ → Line → Effect
effect_in room t l = command_of (room - length l.out) (waits l.out) (parsed_of t) l.after l.one l.two

pub step-passed : (room : ℕ) (t : List ℕ) (l : Line) → l.report.answer ≡ passed
    → (effect_in room t l).report ≡ done
    → (after_command room t l).report.answer ≡ passed
unfolding after_command after_of
step-passed room t l e f = rw (e, f) (unfold first_of in refl)

pub step-refused : (room : ℕ) (t : List ℕ) (l : Line) (r : Refusal) → l.report.answer ≡ passed
    → (effect_in room t l).report ≡ Err r
    → (after_command room t l).report.answer ≡ refused_at r (l.report.count + 1)
unfolding after_command after_of
step-refused room t l r e f = rw (e, f) (unfold first_of in refl)

-- the first refusal stays
pub run-refused : (room : ℕ) (ts : List (List ℕ)) (l : Line) (r : Refusal) (p : ℕ) → l.report.answer ≡ refused_at r p
    → (run_all room ts l).report.answer ≡ refused_at r p
unfolding run_all
run-refused room [] l r p e = e
run-refused room (t ∷ ts) l r p e =
    by (after_command room t l).report.dropped (run-refused room ts (after_command room t l) r p step)
  where
    step : (after_command room t l).report.answer ≡ refused_at r p
    step = unfold after_command after_of in rw e (unfold first_of in refl)

    by : (d : Bool) → (run_all room ts (after_command room t l)).report.answer ≡ refused_at r p
        → (cond d (after_command room t l) (run_all room ts (after_command room t l))).report.answer ≡ refused_at r p
    by true q = step
    by false q = q

outcome_split : (o : Outcome) (Goal : Type 0) → (o ≡ done → Goal)
    → ((r : Refusal) → o ≡ Err r → Goal) → Goal
outcome_split (Ok _) G f g = f refl
outcome_split (Err r) G f g = g r refl

pub count-step : (room : ℕ) (t : List ℕ) (l : Line) → (after_command room t l).report.count ≡ l.report.count + 1
unfolding after_command after_of
count-step room t l = refl

-- a refusal's place is behind what passed
place_behind : (room : ℕ) (ts : List (List ℕ)) (l : Line) (r : Refusal) (p : ℕ) → l.report.answer ≡ passed
    → (run_all room ts l).report.dropped ≡ false
    → (run_all room ts l).report.answer ≡ refused_at r p → l.report.count + 1 ≤ p
place_behind room [] l r p e d f =
    let g : l.report.answer ≡ refused_at r p = unfold run_all in f in
    not-passed r p (sym g ∙ e)
place_behind room (t ∷ ts) l r p e d f =
    let next = after_command room t l in
    let rest = run_rest room t ts l d in
    let on : (run_all room ts next).report.answer ≡ refused_at r p = rw rest.1 at f in
    outcome_split (effect_in room t l).report (l.report.count + 1 ≤ p)
    (λ q.
    let n = place_behind room ts next r p (step-passed room t l e q) (rw rest.1 at d) on in
    omega (arith, n, count-step room t l))
    (λ s q.
    let z : refused_at s (l.report.count + 1) ≡ refused_at r p = sym
    (run-refused room ts next s (l.report.count + 1) (step-refused room t l s e q)) ∙ on in
    let y : l.report.count + 1 ≡ p = told_place z in
    omega arith)

-- what the check passes
step_follows : (model : Model) (room : ℕ) (t : List ℕ) (l : Line) (b : Extremes) → Sim model b l.after
    → text_refusal (parsed_of t) b ≡ done
    → (after_command room t l).report.dropped ≡ false
    → ((effect_in room t l).report ≡ done) × Sim model (text_after model (parsed_of t) b)
    (after_command room t l).after
unfolding after_command after_of
step_follows model room t l b i e d =
    parsed_follows model b l.after i (room - length l.out) (waits l.out) (parsed_of t) l.one l.two
    (parsed_storable t) e d

pub run-passed : (model : Model) (room : ℕ) (ts : List (List ℕ)) (l : Line) (b : Extremes) → Sim model b l.after
    → l.report.answer ≡ passed
    → (run_all room ts l).report.dropped ≡ false → texts_answer model (l.report.count + 1) ts b ≡ passed
    → ((run_all room ts l).report.answer ≡ passed) × Sim model (texts_after model ts b) (run_all room ts l).after
unfolding texts_after
run-passed model room [] l b i e d f = unfold run_all in (e, i)
run-passed model room (t ∷ ts) l b i e d f =
    let next = after_command room t l in
    let rest = run_rest room t ts l d in
    let q =
    answer-passed (text_refusal (parsed_of t) b) (l.report.count + 1)
    (texts_answer model (l.report.count + 1 + 1) ts (text_after model (parsed_of t) b))
    (unfold texts_answer in f)
    in
    let k = step_follows model room t l b i q.0 rest.0 in
    let n =
    run-passed model room ts next (text_after model (parsed_of t) b) k.1 (step-passed room t l e k.0)
    (rw rest.1 at d)
    (rw (count-step room t l) q.1)
    in
    rw rest.1 n

-- where the check refuses one
pub run-earlier : (model : Model) (room : ℕ) (ts : List (List ℕ)) (l : Line) (b : Extremes) (r s : Refusal) (p q : ℕ)
    → Sim model b l.after → l.report.answer ≡ passed
    → (run_all room ts l).report.dropped ≡ false → texts_answer model (l.report.count + 1) ts b ≡ refused_at r p
    → (run_all room ts l).report.answer ≡ refused_at s q → p ≤ q
run-earlier model room [] l b r s p q i e d f g = not-passed r p (sym (unfold texts_answer in f))
run-earlier model room (t ∷ ts) l b r s p q i e d f g =
    let next = after_command room t l in
    let rest = run_rest room t ts l d in
    answer_split (text_refusal (parsed_of t) b) (l.report.count + 1)
    (texts_answer model (l.report.count + 1 + 1) ts (text_after model (parsed_of t) b)) p r (p ≤ q)
    (unfold texts_answer in f)
    (λ z h.
    let k = step_follows model room t l b i z rest.0 in
    run-earlier model room ts next (text_after model (parsed_of t) b) r s p q k.1 (step-passed room t l e k.0)
    (rw rest.1 at d)
    (rw (count-step room t l) h) (rw rest.1 at g))
    (λ z w. omega (arith, w, place_behind room (t ∷ ts) l s q e d g))
