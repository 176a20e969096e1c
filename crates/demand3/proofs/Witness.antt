-- The check's two courses are courses: where the check stops by another number than 7 or 8, the low or the high one is
-- refused there.
use Prim.Native.Nat.{ℕ, ◌+◌, ◌-◌, ◌*◌, ◌/◌, ◌≤◌}
use native.Mathlib.Omega.{arith}
use native.Mathlib.Nat.{mul-div-le, le-div_iff_mul-le, div-le_self}
use mathlib.Core.Bool.{Bool, true, false, cond, ◌&&◌, false≢true}
use mathlib.Core.Path.{◌≡◌, refl, sym, ap, ◌∙◌}
use mathlib.Core.Logic.{◌≢◌}
use mathlib.Core.List.{List, [], ◌∷◌}
use lib.ListN.{length}
use borrow.Author.Tests.{le-leb}
use Rattle.std.specs.Prelude.{Err, Some, None, Ok}
use Rattle.outcome.specs.declared.Refusal.{Refusal}
use Rattle.outcome.specs.declared.Refusal.TheVariants.{NotAllowed, NoReset}
use Rattle.outcome.specs.Code.{Outcome, done}
use Rattle.settings.specs.Table.{fmod, harm, value_of}
use Rattle.settings.specs.Frequency.{is_internal}
use Rattle.settings.specs.Valid.{values_valid}
use Rattle.settings.specs.declared.Settings.{Settings}
use Rattle.command.specs.Parsed.{Parsed, parsed_of}
use Rattle.command.specs.declared.Kind.{Kind}
use Rattle.command.specs.declared.Kind.TheVariants.{Set, Query, Act}
use Rattle.state.specs.State.{at_frequency, range_settled, settled}
use Rattle.state.specs.Storing.{trigger_of, sampled_by}
use Rattle.state.specs.declared.Acquisition.{Acquisition}
use Rattle.state.specs.declared.State.{State}
use Rattle.precondition.specs.Allowed.{is_allowed}
use Rattle.effect.specs.Effect.{settings_after, acquisition_after, state_after}
use Rattle.line.specs.Perform.{done_by, performed, command_of}
use Rattle.outcome.specs.Answer.{drops, passed, refused_at}
use Rattle.line.specs.Line.{Line, waits, after_of, after_command, run_all}
use Rattle.event.specs.Event.{takes_frequency, with_external, measured_by, sampled_in, event_of}
use Rattle.event.specs.declared.Event.{Event}
use Rattle.event.specs.declared.Event.TheVariants.{Trigger, Measured}
use Rattle.extreme_courses.specs.Model.{OfModel}
use Rattle.extreme_courses.specs.declared.Model.{Model}
use Rattle.extreme_courses.specs.Extremes.{resets, measured_high, triggered_high, kind_refusal, text_refusal, kind_after}
use Rattle.extreme_courses.specs.Extremes.{text_after}
use Rattle.extreme_courses.specs.declared.Extremes.{Extremes}
use Rattle.script.specs.Check.{texts_answer, texts_after}
use Rattle.invariant.specs.Representable.{Every, EventFits}
use Rattle.demand3.proofs.SameButTimeConstant.{Alike, alike_then, alike_value, alike_allows, alike_after}
use Rattle.demand3.proofs.SameButTimeConstant.{alike_acquisition}
use Rattle.demand3.proofs.SameButTimeConstant.{alike_sampling, after-settings, after-acquisition}
use Rattle.demand3.proofs.SameButTimeConstant.{after-installation, settled-settings}
use Rattle.demand3.proofs.SameButTimeConstant.{alike_settled, settled-acquisition}
use Rattle.settings.proofs.Values.{harm-kept}
use Rattle.demand3.proofs.FirstRefusal.{not-passed, not_done, answer-passed, answer_split}
use Rattle.demand3.proofs.Commands.{kind_done, valid-done, effect_in, run_rest, step-passed, step-refused}
use Rattle.demand3.proofs.Commands.{run-refused}
use Rattle.demand3.proofs.Commands.{count-step}
use Rattle.settings.specs.Limits.{detection_limit}

-- which of the two
pub data Side : Type 0 where
  low high : Side

abbrev pub side : Side → Extremes → Acquisition
side low b = b.low
side high b = b.high

-- a state where that course is
pub record At (d : Side) (model : Model) (b : Extremes) (s : State) : Type 0 where
  pub same : OfModel model s.installation
  pub alike : Alike s.settings b.settings
  pub acquisition : s.acquisition ≡ side d b

-- ---- one command

reset_allows : (kind : Kind) (x : Settings) (m : Acquisition) → resets kind ≡ true → is_allowed x m kind ≡ true
unfolding resets is_allowed
reset_allows (Set a) x m e = absurd (false≢true e)
reset_allows (Query q) x m e = absurd (false≢true e)
reset_allows (Act a) x m e = refl

both_sides : (d : Side) (b : Extremes) (kind : Kind) → is_allowed b.settings b.low kind ≡ true
    → is_allowed b.settings b.high kind ≡ true
    → is_allowed b.settings (side d b) kind ≡ true
both_sides low b kind l h = l
both_sides high b kind l h = h

-- what the check passes, that course passes
side_allows : (d : Side) (b : Extremes) (kind : Kind) → kind_refusal kind b ≡ done
    → is_allowed b.settings (side d b) kind ≡ true
side_allows d b kind e =
    kind_done b kind (is_allowed b.settings (side d b) kind ≡ true) e (λ p l h. both_sides d b kind l h)
    (λ u. reset_allows kind b.settings (side d b) u)

side_after : (d : Side) (model : Model) (kind : Kind) (b : Extremes)
    → side d (kind_after model kind b) ≡ acquisition_after kind (settings_after kind b.settings) (side d b)
    model.capacity
unfolding kind_after
side_after low model kind b = refl
side_after high model kind b = refl

module _ (d : Side) (model : Model) (b : Extremes) (s : State) (i : At d model b s) where
  state_allows : (kind : Kind) → is_allowed s.settings s.acquisition kind ≡ is_allowed b.settings (side d b) kind
  state_allows kind =
      alike_allows s.settings b.settings i.alike s.acquisition kind ∙ ap
      (λ (m : Acquisition). is_allowed b.settings m kind) i.acquisition

  at_after : (kind : Kind) → At d model (kind_after model kind b) (state_after kind s)
  at_after kind =
      record {
        same = rw (after-installation kind s) i.same;
        alike = unfold kind_after in alike_then (after-settings kind s)
            (alike_after s.settings b.settings i.alike kind);
        acquisition =
            after-acquisition kind s
            ∙ (alike_acquisition (settings_after kind s.settings) (settings_after kind b.settings)
            (alike_after s.settings b.settings i.alike kind) kind s.acquisition s.installation.capacity
            ∙ (rw (i.same.capacity, i.acquisition) (sym (side_after d model kind b))));
      }

  at_parsed : (room : ℕ) (waiting : Bool) (p : Parsed) (one two : List ℕ) → text_refusal p b ≡ done
      → drops (command_of room waiting p s one two).report ≡ false
      → ((command_of room waiting p s one two).report ≡ done)
      × At d model (text_after model p b) (command_of room waiting p s one two).after
  unfolding text_refusal text_after command_of
  at_parsed room waiting (Ok None) one two e f = (refl, i)
  at_parsed room waiting (Err r) one two e f = not_done _ e
  at_parsed room waiting (Ok (Some c)) one two e f =
      valid-done (λ t. (t.report ≡ done) × At d model (kind_after model c.kind b) t.after) room waiting
      c.kind s one two
      (state_allows c.kind ∙ side_allows d b c.kind e) f (unfold done_by in (refl, at_after c.kind))

-- what the check refuses, but for 7, one of the two refuses
abbrev Refuses : Model → Extremes → Parsed → Refusal → Side → Type 0
Refuses model b p r d =
    (s : State) → At d model b s → (room : ℕ) (waiting : Bool) (one two : List ℕ)
    → (command_of room waiting p s one two).report ≡ Err r

not_allowed_lem : (model : Model) (b : Extremes) (c : Kind) (d : Side) → is_allowed b.settings (side d b) c ≡ false
    → Refuses model b (Ok (Some (record { kind = c }))) NotAllowed d
unfolding command_of performed
not_allowed_lem model b c d e s i room waiting one two = rw (state_allows d model b s i c ∙ e) refl

pub refused-same : (r s : Refusal) → ◌≡◌ {A = Outcome} (Err r) (Err s) → r ≡ s
refused-same r s e = cc

parsed_refuses : (model : Model) (b : Extremes) (p : Parsed) (r : Refusal) → text_refusal p b ≡ Err r
    → r ≢ NoReset
    → (d : Side) × Refuses model b p r d
unfolding text_refusal
parsed_refuses model b (Ok None) r e n = not_done r (sym e)
parsed_refuses model b (Err q) r e n = (low, by b.begun (refused-same _ _ e)) where
  by : (t : Bool) → cond t q NoReset ≡ r → Refuses model b (Err q) r low
  by true z s i room waiting one two = unfold command_of in ap (λ (x : Refusal). Err x) z
  by false z s i room waiting one two = absurd (n (sym z))
parsed_refuses model b (Ok (Some c)) r e n =
    by b.begun (is_allowed b.settings b.low c.kind) (is_allowed b.settings b.high c.kind)
    (resets c.kind) refl refl
    (unfold kind_refusal in e)
  where
    by : (a l h t : Bool) → is_allowed b.settings b.low c.kind ≡ l
        → is_allowed b.settings b.high c.kind ≡ h
        → cond a (cond (l && h) done (Err NotAllowed))
        (cond t done (Err NoReset)) ≡ Err r
        → (d : Side) × Refuses model b (Ok (Some c)) r d
    by true false h t p q z =
        (low, λ s i room waiting one two. not_allowed_lem model b c.kind low p s i room waiting one two ∙ z)
    by true true false t p q z =
        (high, λ s i room waiting one two. not_allowed_lem model b c.kind high q s i room waiting one two ∙ z)
    by true true true t p q z = not_done r (sym z)
    by false l h true p q z = not_done r (sym z)
    by false l h false p q z = absurd (n (sym (refused-same _ _ z)))

-- ---- a line's commands

at_step : (d : Side) (model : Model) (room : ℕ) (t : List ℕ) (l : Line) (b : Extremes) → At d model b l.after
    → text_refusal (parsed_of t) b ≡ done
    → (after_command room t l).report.dropped ≡ false
    → ((effect_in room t l).report ≡ done) × At d model (text_after model (parsed_of t) b)
    (after_command room t l).after
unfolding after_command after_of
at_step d model room t l b i e f =
    at_parsed d model b l.after i (room - length l.out) (waits l.out) (parsed_of t) l.one l.two e f

pub at_run : (d : Side) (model : Model) (room : ℕ) (ts : List (List ℕ)) (l : Line) (b : Extremes) (p : ℕ)
    → At d model b l.after
    → (run_all room ts l).report.dropped ≡ false → texts_answer model p ts b ≡ passed
    → At d model (texts_after model ts b) (run_all room ts l).after
unfolding texts_after
at_run d model room [] l b p i c e = unfold run_all in i
at_run d model room (t ∷ ts) l b p i c e =
    let rest = run_rest room t ts l c in
    let q = answer-passed (text_refusal (parsed_of t) b) p (texts_answer model (p + 1) ts (text_after model (parsed_of t) b))
    (unfold texts_answer in e) in
    let k = at_step d model room t l b i q.0 rest.0 in
    rw rest.1 (at_run d model room ts (after_command room t l) (text_after model (parsed_of t) b) (p + 1) k.1
    (rw rest.1 at c) q.1)

abbrev RunRefuses : Model → Extremes → ℕ → List (List ℕ) → Refusal → ℕ → Side → Type 0
RunRefuses model b n ts r p d =
    (room : ℕ) (l : Line) → l.report.count ≡ n → l.report.answer ≡ passed → At d model b l.after
    → (run_all room ts l).report.dropped ≡ false
    → (run_all room ts l).report.answer ≡ refused_at r p

pub run-refuses : (model : Model) (b : Extremes) (n : ℕ) (ts : List (List ℕ)) (r : Refusal) (p : ℕ)
    → texts_answer model (n + 1) ts b ≡ refused_at r p
    → r ≢ NoReset → (d : Side) × RunRefuses model b n ts r p d
run-refuses model b n [] r p e z = not-passed r p (sym (unfold texts_answer in e))
run-refuses model b n (t ∷ ts) r p e z =
    answer_split (text_refusal (parsed_of t) b) (n + 1)
    (texts_answer model (n + 1 + 1) ts (text_after model (parsed_of t) b)) p r
    ((d : Side) × RunRefuses model b n (t ∷ ts) r p d) (unfold texts_answer in e)
    (λ f g.
    let w = run-refuses model (text_after model (parsed_of t) b) (n + 1) ts r p g z in (
      w.0,
      λ room l m a i c.
          let rest = run_rest room t ts l c in
          let k = at_step w.0 model room t l b i f rest.0 in
          rw rest.1
          (w.1 room (after_command room t l) (count-step room t l ∙ ap (λ (x : ℕ). x + 1) m)
          (step-passed room t l a k.0)
          k.1 (rw rest.1 at c)),
    ))
    (λ f g.
    let w = parsed_refuses model b (parsed_of t) r f z in (
      w.0,
      λ room l m a i c.
          let rest = run_rest room t ts l c in
          let k = step-refused room t l r a
          (w.1 l.after i (room - length l.out) (waits l.out) l.one l.two) in
          rw rest.1 (run-refused room ts (after_command room t l) r p
          (k ∙ ap (λ (x : ℕ). refused_at r x) (ap (λ (x : ℕ). x + 1) m ∙ g))),
    ))

-- ---- its events

-- the highest frequency that is taken at these settings
abbrev pub highest : Settings → ℕ
highest x = detection_limit / value_of x harm

unfoldable pub events_of : Side → Extremes → List Event
events_of low b = []
events_of high b = Measured (highest b.settings) ∷ Trigger ∷ []

-- there can be such events
pub events_fit : (d : Side) (b : Extremes) → Every EventFits (events_of d b)
unfolding events_of
events_fit low b = tt
events_fit high b = (omega (arith, div-le_self detection_limit (value_of b.settings harm)), (tt, tt))

module _ (x : Settings) (s : State) (a : Alike s.settings x) (k : values_valid s.settings ≡ true) where
  takes_highest : takes_frequency s (highest x) ≡ true
  unfolding takes_frequency
  takes_highest =
      let same = alike_value a harm (λ q. omega arith) in
      let one : 1 ≤ value_of x harm = rw same at (harm-kept s.settings k).0 in
      let most : value_of x harm ≤ 19999 = rw same at (harm-kept s.settings k).1 in
      let enough : 10 * value_of x harm ≤ detection_limit = omega arith in
      let least : 10 ≤ highest x = (le-div_iff_mul-le one).1 enough in
      rw (
        same,
        le-leb 10 (highest x) least,
        le-leb (highest x) detection_limit (div-le_self detection_limit (value_of x harm)),
        le-leb (value_of x harm * highest x) detection_limit (mul-div-le detection_limit (value_of x harm)),
      )
      refl

  pub measured_at : (m : Acquisition) → s.acquisition ≡ m →
      let t = measured_by (highest x) s in
      (t.installation ≡ s.installation) × Alike t.settings x × (t.acquisition ≡ measured_high x m)
  unfolding measured_by measured_high
  measured_at m e =
      rw (takes_highest, alike_value a fmod (λ q. omega arith)) (by (is_internal x))
    where
      taken : State
      taken = settled (with_external (highest x) s)

      by : (t : Bool) → ((cond t s taken).installation ≡ s.installation) × Alike (cond t s taken).settings x
          × ((cond t s taken).acquisition ≡ cond t m (range_settled x (at_frequency (highest x) m)))
      by true = (refl, a, e)
      by false = (
        unfold settled in refl,
        alike_then (settled-settings (with_external (highest x) s)) a,
        settled-acquisition (with_external (highest x) s)
            ∙ (alike_settled s.settings x a (at_frequency (highest x) s.acquisition)
            ∙ ap (λ (n : Acquisition). range_settled x (at_frequency (highest x) n)) e),
      )

pub triggered_at : (model : Model) (x : Settings) (s : State) (m : Acquisition) (one two : List ℕ)
    → OfModel model s.installation
    → Alike s.settings x → s.acquisition ≡ m →
    let t = (event_of Trigger s one two).after in
    (t.installation ≡ s.installation) × Alike t.settings x × (t.acquisition ≡ triggered_high model.capacity x m)
unfolding event_of sampled_in sampled_by trigger_of triggered_high
triggered_at model x s m one two c a e = (refl, a, rw (c.capacity, e, alike_sampling s.settings x a) refl)
