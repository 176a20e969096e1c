-- Demand 3, proved.
use Prim.Native.Nat.{ℕ, zero, suc, ◌≤◌, ◌<◌}
use native.Mathlib.Omega.{arith}
use mathlib.Core.Bool.{true, false, false≢true}
use mathlib.Core.Path.{◌≡◌, refl, sym, ap, ◌∙◌}
use mathlib.Core.Logic.{◌≢◌, ◌↔◌}
use mathlib.Core.List.{List, [], ◌∷◌}
use lib.Dec.{ltb}
use lib.ListN.{length, get_or, length-replicate}
use borrow.Author.Tests.{eq-eqb, ltb-true, ltb-false}
use Rattle.std.specs.Prelude.{Err}
use Rattle.laws.proofs.Tests.{split, never}
use Rattle.outcome.specs.declared.Refusal.{Refusal}
use Rattle.outcome.specs.declared.Refusal.TheVariants.{LongLine, NoReset, LongScriptLine, BadTraces}
use Rattle.outcome.specs.Answer.{refused_at}
use Rattle.outcome.specs.Answer as answer
use Rattle.command.specs.Parsed.{Parsed}
use Rattle.state.specs.State.{start_state}
use Rattle.module.specs.Start.{fresh_module}
use Rattle.module.specs.Module.{valid_module, guard_of}
use Rattle.extreme_courses.specs.Model.{OfModel, model_fits}
use Rattle.extreme_courses.specs.declared.Model.{Model}
use Rattle.extreme_courses.specs.Extremes.{start_extremes}
use Rattle.script.specs.Check.{line_too_long, Finding, fine, no_command, stop, finding, line_number, verdict_of, lines_of, check_of}
use Rattle.verdict.specs.Verdict.{Verdict, passes, objected_at}
use Rattle.verdict.specs.declared.Objection.{Objection}
use Rattle.invariant.proofs.StaysValid.{stays-valid}
use Rattle.demand3.specs.Course.{World, StartAnswers, Startable, fresh_world, before, after, LineInputs, Course}
use Rattle.demand3.specs.Course.{answer_of, answers}
use Rattle.demand3.specs.Demand3.{line_numbered, Short, none, first, first_command, is_rst_command, begins_with_reset, AllPass, FirstRefused}
use Rattle.demand3.specs.Demand3.{NotBegun, other, nothing, LongAt, Demand3}
use Rattle.demand3.proofs.SameButTimeConstant.{alike_self}
use Rattle.demand3.proofs.FirstRefusal.{not-passed}
use Rattle.demand3.proofs.Commands.{Sim}
use Rattle.demand3.proofs.Soundness.{Open, line_open, line-long, events_open, script-passes, script-earlier}
use Rattle.demand3.proofs.Witness.{Side, low, high, At}
use Rattle.demand3.proofs.Start.{fits-start, unfit_start, start_fits, start_unfit, fresh-core, fresh-fits}
use Rattle.demand3.proofs.Sizes.{Sized}
use Rattle.demand3.proofs.Completeness.{inputs_for, inputs_roomy, inputs_fit, reached}
use Rattle.demand3.proofs.LongLines.{number_of, short-passes, stop_split}
use Rattle.demand3.proofs.Beginning.{Begins, with_reset, with_other, with_nothing, with_long, begins_found}

-- ---- any course, where the check begins

world_open : (model : Model) (w : World) → valid_module w.core ≡ true → OfModel model w.core.state.installation
    → length w.one ≡ model.capacity → length w.two ≡ model.capacity → Open w
unfolding guard_of
world_open model w a t f s = rw (a, t.capacity, f, s, eq-eqb model.capacity model.capacity refl) refl

module _ (model : Model) (lines : List (List ℕ)) (k : Course model lines) where
  course_sim : Sim model start_extremes k.start.core.state
  course_sim = record { same = k.same; begun = λ e. absurd (false≢true e) }

  course_open : Open k.start
  course_open = world_open model k.start k.valid k.same k.first k.second

-- ---- the check's two courses, from a fresh module

module _ (model : Model) (fits : model_fits model ≡ true) where
  fresh_at : (d : Side) → At d model start_extremes (fresh_world model).core.state
  fresh_at low =
      rw (fresh-core model fits)
      (unfold fresh_module start_state in record
      { same = record { capacity = refl }; alike = alike_self _; acquisition = refl })
  fresh_at high =
      rw (fresh-core model fits)
      (unfold fresh_module start_state in record
      { same = record { capacity = refl }; alike = alike_self _; acquisition = refl })

  fresh_open : Open (fresh_world model)
  unfolding fresh_world
  fresh_open =
      world_open model (fresh_world model) (stays-valid.start 0 1 model.capacity model.capacity)
      (fresh_at low).same
      (length-replicate model.capacity 0) (length-replicate model.capacity 0)

  fresh_sized : Sized (fresh_world model).core.state
  fresh_sized =
      let k = (fresh-fits model fits).core.state in
      record { full = k.full; registers = k.registers; enables = k.enables }

  course_of : (d : Side) (lines : List (List ℕ)) → Course model lines
  unfolding fresh_world
  course_of d lines =
      record {
        start = fresh_world model;
        valid = stays-valid.start 0 1 model.capacity model.capacity;
        same = (fresh_at d).same;
        first = length-replicate model.capacity 0;
        second = length-replicate model.capacity 0;
        fits = fresh-fits model fits;
        inputs = inputs_for d model lines start_extremes;
        inputs_fit = inputs_fit d model lines start_extremes;
        rooms = inputs_roomy d model lines start_extremes (fresh_world model) fresh_open fresh_sized;
      }

  -- it starts so
  course-fresh : (d : Side) (lines : List (List ℕ)) → (course_of d lines).start ≡ fresh_world model
  unfolding course_of
  course-fresh d lines = refl

-- ---- cases

found_split : (v : Finding) (Goal : Type 0) → (v ≡ fine → Goal) → (v ≡ no_command → Goal)
    → ((i p : ℕ) (r : Refusal) → v ≡ stop i p r → Goal) → Goal
found_split fine G f g h = f refl
found_split no_command G f g h = g refl
found_split (stop i p r) G f g h = h i p r refl

apart : (r s : Refusal) → (number_of r ≡ number_of s → ⊥) → r ≢ s
apart r s n e = n (ap number_of e)

seven-eight : NoReset ≢ LongScriptLine
seven-eight = apart NoReset LongScriptLine (λ e. omega arith)

order_split : (i j : ℕ) (Goal : Type 0) → (i < j → Goal) → (i ≡ j → Goal) → (j < i → Goal) → Goal
order_split i j G f g h =
    split (ltb i j) (λ e. f (ltb-true i j e))
    (λ e. split (ltb j i) (λ d. h (ltb-true j i d)) (λ d. g (omega (arith, ltb-false i j e, ltb-false j i d))))

-- ---- what the check says, by what it finds

check_fits : (model : Model) (script : List ℕ) → model_fits model ≡ true
    → check_of model script ≡ verdict_of (finding model (lines_of script) start_extremes)
unfolding check_of
check_fits model script e = rw e refl

check_unfit : (model : Model) (script : List ℕ) → model_fits model ≡ false →
    check_of model script ≡ objected_at 0 0 BadTraces
unfolding check_of
check_unfit model script e = rw e refl

-- the verdict tells what is found, and a line by its number
verdict-fine : (v : Finding) → verdict_of v ≡ passes → v ≡ fine
verdict-fine fine e = refl
verdict-fine no_command e = never (cc)
verdict-fine (stop i p r) e = never (cc)

-- two verdicts that name a line, a place and a refusal name the same
same_named : (l n p q : ℕ) (r s : Refusal) → objected_at l p r ≡ objected_at n q s → (l ≡ n) × (p ≡ q) × (r ≡ s)
same_named l n p q r s e =
    let o : ◌≡◌ {A = Objection} (record { line = l; place = p; refusal = r })
    (record { line = n; place = q; refusal = s }) = cc in
    (ap (λ (x : Objection). x.line) o, ap (λ (x : Objection). x.place) o, ap (λ (x : Objection). x.refusal) o)

verdict-no : (v : Finding) (n p : ℕ) (r : Refusal) (Goal : Type 0) → verdict_of v ≡ objected_at n p r
    → (v ≡ no_command → n ≡ 1 → p ≡ 1 → r ≡ NoReset → Goal) → ((i : ℕ) → v ≡ stop i p r → n ≡ line_number i → Goal) → Goal
verdict-no fine n p r G e f g = never (cc)
verdict-no no_command n p r G e f g =
    let k = same_named 1 n 1 p NoReset r e in
    f refl (sym k.0) (sym k.1) (sym k.2)
verdict-no (stop i q s) n p r G e f g =
    let k = same_named (line_number i) n q p s r e in
    g i (rw (k.1, k.2) refl) (sym k.0)

-- ---- a script that the check reads

abbrev finds : Model → List (List ℕ) → Finding
finds model lines = finding model lines start_extremes

module _ (model : Model) (lines : List (List ℕ)) where
  -- a long line answers 5 in every course
  long-answers : (ls : List (List ℕ)) (g : LineInputs ls) (w : World) → Open w → (i : ℕ) → line_too_long (get_or ls i []) ≡ true
      → answer_of ls g w i ≡ refused_at LongLine 0
  unfolding answer_of
  long-answers [] g w o i e = absurd (false≢true e)
  long-answers (l ∷ ls) g w o zero e = line-long (before g.0 w) (events_open g.0.events w o) g.0.room l e
  long-answers (l ∷ ls) g w o (suc i) e =
      long-answers ls g.1 (after g.0 l w)
      (line_open (before g.0 w) (events_open g.0.events w o) g.0.room l) i e

  short-zero : Short lines 0
  unfolding line_numbered
  short-zero = refl

  short-suc : (i : ℕ) → line_too_long (get_or lines i []) ≡ false → Short lines (suc i)
  unfolding line_numbered
  short-suc i e = e

  short-every : ((i : ℕ) → line_too_long (get_or lines i []) ≡ false) → (n : ℕ) → Short lines n
  short-every f zero = short-zero
  short-every f (suc i) = short-suc i (f i)

  -- every course
  course-fine : finds model lines ≡ fine → (k : Course model lines) (n : ℕ) → answers k n ≡ answer.passed
  unfolding answers
  course-fine e k zero = refl
  course-fine e k (suc i) =
      script-passes model lines start_extremes k.start k.inputs (course_open model lines k) (course_sim model lines k)
      k.rooms i (rw e tt)

  module _ (i p : ℕ) (r : Refusal) (e : finds model lines ≡ stop i p r) where
    course-before : (k : Course model lines) (m : ℕ) → m < suc i → answers k m ≡ answer.passed
    unfolding answers
    course-before k zero h = refl
    course-before k (suc j) h =
        script-passes model lines start_extremes k.start k.inputs (course_open model lines k) (course_sim model lines k)
        k.rooms j (rw e (omega arith))

    course-earlier : (k : Course model lines) (q : ℕ) (s : Refusal) → answers k (suc i) ≡ refused_at s q → p ≤ q
    unfolding answers
    course-earlier k =
        script-earlier model lines start_extremes k.start k.inputs (course_open model lines k) (course_sim model lines k)
        k.rooms i p r e

    refused-first : model_fits model ≡ true → r ≢ NoReset → r ≢ LongScriptLine → FirstRefused model lines (suc i) p r
    unfolding answers course_of
    refused-first fits x y =
        let w = reached model lines start_extremes i p r e x y in
        let k = course_of model fits w.0 lines in
        record {
          witness = k;
          fresh = course-fresh model fits w.0 lines;
          refuses = w.1 k.start (course_open model lines k) k.rooms (fresh_at model fits w.0);
          before = course-before;
          earlier = course-earlier;
        }

    -- no line up to there is over-long
    short_to : r ≢ LongScriptLine → (m : ℕ) → m ≤ suc i → Short lines m
    short_to n zero h = short-zero
    short_to n (suc j) h =
        order_split j i (Short lines (suc j)) (λ l. short-suc j (short-passes model lines start_extremes j (rw e l)))
        (λ l.
        stop_split model lines start_extremes i p r (Short lines (suc j)) e (λ t z q. absurd (n z))
        (λ t z. rw l (short-suc i t)))
        (λ l. absurd (omega arith))

  -- ---- each verdict

  -- how the script begins
  starts : Begins 1 (finds model lines) (first_command lines)
  starts = begins_found model 1 lines start_extremes refl

  all_pass : model_fits model ≡ true → finds model lines ≡ fine → AllPass model lines
  all_pass fits e =
      record {
        startable = fits-start model fits;
        begun = by starts;
        short = short-every (λ i. short-passes model lines start_extremes i (rw e tt));
        passed = course-fine e;
      }
    where
      by : Begins 1 (finds model lines) (first_command lines) → begins_with_reset (first_command lines) ≡ true
      by (with_reset n q c u w x) = unfold begins_with_reset in rw u w
      by (with_other i p n c f z u w) = never (cc)
      by (with_nothing f u) = never (cc)
      by (with_long i f u) = never (cc)

  -- 7
  not-begun : (i p : ℕ) → finds model lines ≡ stop i p NoReset → NotBegun lines (suc i) p
  not-begun i p e = by starts where
    by : Begins 1 (finds model lines) (first_command lines) → NotBegun lines (suc i) p
    by (with_reset n q c u w x) = let k : NoReset ≢ NoReset = rw e at x in absurd (k refl)
    by (with_other j q n c f z u w) =
        let a : stop j q NoReset ≡ stop i p NoReset = sym f ∙ e in
        let b : j ≡ i = cc in
        let d : q ≡ p = cc in
        let m : n ≡ suc i = omega arith in
        other (suc i) p c (u ∙ rw (m, d) refl) w (short_to i p NoReset e seven-eight)
    by (with_nothing f u) = never (cc)
    by (with_long j f u) = absurd (seven-eight (cc))

  no-command : finds model lines ≡ no_command → NotBegun lines 1 1
  no-command e = nothing (by starts) (short-every (λ i. short-passes model lines start_extremes i (rw e tt))) where
    by : Begins 1 (finds model lines) (first_command lines) → first_command lines ≡ none
    by (with_reset n q c u w x) = absurd (rw e at x)
    by (with_other i p n c f z u w) = never (cc)
    by (with_nothing f u) = u
    by (with_long i f u) = never (cc)

  -- 8
  long_at : (i p : ℕ) → finds model lines ≡ stop i p LongScriptLine → LongAt model lines (suc i) p
  unfolding line_numbered
  long_at i p e =
      stop_split model lines start_extremes i p LongScriptLine (LongAt model lines (suc i) p) e
      (λ t z q.
      record {
        nowhere = q;
        long = t;
        begun = λ m y c f h. by m y c f h starts;
        before = course-before i p
            LongScriptLine e;
      })
      (λ t h. absurd (omega arith))
    where
      by : (m q : ℕ) (c : Parsed) → first_command lines ≡ first m q c → m < suc i
          → Begins 1 (finds model lines) (first_command lines) → is_rst_command c ≡ true
      by m q c f h (with_reset n y d u w x) =
          let z : first n y d ≡ first m q c = sym u ∙ f in
          let b : d ≡ c = cc in
          rw (sym b) w
      by m q c f h (with_other j p n d k z u w) = absurd (seven-eight (cc))
      by m q c f h (with_nothing k u) = never (cc)
      by m q c f h (with_long j k u) =
          let b : j ≡ i = cc in
          absurd (omega (arith, u m q c f))

  -- ---- and back

  long-suc : (i : ℕ) → line_too_long (get_or lines i []) ≡ true → Short lines (suc i) → ⊥
  unfolding line_numbered
  long-suc i e f = false≢true (sym f ∙ e)

  begins_is : (n p : ℕ) (c : Parsed) → first_command lines ≡ first n p c → begins_with_reset (first_command lines) ≡ is_rst_command c
  unfolding begins_with_reset
  begins_is n p c u = rw u refl

  refused-apart : (k : Course model lines) (n p : ℕ) (r : Refusal) → answers k n ≡ refused_at r p
      → answers k n ≡ answer.passed
      → ⊥
  refused-apart k n p r e f = not-passed r p (sym e ∙ f)

  module _ (fits : model_fits model ≡ true) where
    -- where the check stops after *RST, some course is refused
    stop-refused : (i p : ℕ) (r : Refusal) → finds model lines ≡ stop i p r → r ≢ NoReset
        → ((k : Course model lines) → answers k (suc i) ≡ answer.passed) → ⊥
    unfolding answers
    stop-refused i p r e n f =
        stop_split model lines start_extremes i p r ⊥ e
        (λ t z q.
        let k = course_of model fits low lines in
        refused-apart k (suc i) 0 LongLine (long-answers lines k.inputs k.start (course_open model lines k) i t)
        (f k))
        (λ t h.
        let k = refused-first i p r e fits n (apart r LongScriptLine (λ z. omega arith)) in
        refused-apart k.witness (suc i) p r k.refuses (f k.witness))

    fine_back : AllPass model lines → finds model lines ≡ fine
    fine_back a = by starts where
      by : Begins 1 (finds model lines) (first_command lines) → finds model lines ≡ fine
      by (with_reset n q c u w x) =
          found_split (finds model lines) (finds model lines ≡ fine) (λ e. e) (λ e. absurd (rw e at x))
          (λ i p r e. absurd (stop-refused i p r e (rw e at x) (λ k. a.passed k (suc i))))
      by (with_other i p n c e z u w) = absurd (false≢true (sym w ∙ (sym (begins_is n p c u) ∙ a.begun)))
      by (with_nothing e u) = absurd (false≢true (unfold begins_with_reset in rw u at a.begun))
      by (with_long i e u) =
          absurd (stop-refused i 0 LongScriptLine e (λ z. seven-eight (sym z)) (λ k. a.passed k (suc i)))

    long-back : (j p : ℕ) → LongAt model lines (suc j) p → finds model lines ≡ stop j 0 LongScriptLine
    unfolding line_numbered
    long-back j p a =
        found_split (finds model lines) (finds model lines ≡ stop j 0 LongScriptLine)
        (λ e. absurd (false≢true (sym (short-passes model lines start_extremes j (rw e tt)) ∙ a.long)))
        (λ e. absurd (false≢true (sym (short-passes model lines start_extremes j (rw e tt)) ∙ a.long)))
        (λ i q r e.
        order_split i j (finds model lines ≡ stop j 0 LongScriptLine)
        (λ h. absurd (stop-refused i q r e (begun i q r e h starts) (λ k. a.before k (suc i) (omega arith))))
        (λ h.
        stop_split model lines start_extremes i q r (finds model lines ≡ stop j 0 LongScriptLine) e
        (λ t z y. e ∙ rw (h, z, y) refl)
        (λ t y. absurd (false≢true (sym t ∙ rw h a.long))))
        (λ h. absurd (false≢true (sym (short-passes model lines start_extremes j (rw e h)) ∙ a.long))))
      where
        -- before the over-long line the check does not stop by 7
        begun : (i q : ℕ) (r : Refusal) → finds model lines ≡ stop i q r → i < j
            → Begins 1 (finds model lines) (first_command lines) → r ≢ NoReset
        begun i q r e h (with_reset n y c u w x) s = let k : r ≢ NoReset = rw e at x in k s
        begun i q r e h (with_other k y n c f z u w) s =
            let b : k ≡ i = cc in
            false≢true (sym w ∙ a.begun n y c u (omega arith))
        begun i q r e h (with_nothing f u) s = never (cc)
        begun i q r e h (with_long k f u) s = seven-eight (cc)

    -- the other first command, or none
    begun-back : (n p : ℕ) → NotBegun lines n p → verdict_of (finds model lines) ≡ objected_at n p NoReset
    begun-back n p (other m q c l f s) = by starts where
      by : Begins 1 (finds model lines) (first_command lines) → verdict_of (finds model lines) ≡ objected_at n p NoReset
      by (with_reset m y d u w x) =
          let z : first m y d ≡ first n p c = sym u ∙ l in
          let b : d ≡ c = cc in
          absurd (false≢true (sym f ∙ rw (sym b) w))
      by (with_other i y m d e z u w) =
          let t : first m y d ≡ first n p c = sym u ∙ l in
          let a : m ≡ n = cc in
          let b : y ≡ p = cc in
          let k : line_number i ≡ n = omega arith in
          rw (e, k, b) refl
      by (with_nothing e u) = never (cc)
      by (with_long i e u) =
          stop_split model lines start_extremes i 0 LongScriptLine
          (verdict_of (finds model lines) ≡ objected_at n p NoReset) e
          (λ t z q. absurd (long-suc i t (s (suc i) (omega (arith, u n p c l)))))
          (λ t h. absurd (omega arith))
    begun-back n p (nothing l s) = by starts where
      by : Begins 1 (finds model lines) (first_command lines) → verdict_of (finds model lines) ≡ objected_at 1 1 NoReset
      by (with_reset m y d u w x) = never (cc)
      by (with_other i y m d e z u w) = never (cc)
      by (with_nothing e u) = rw e refl
      by (with_long i e u) =
          stop_split model lines start_extremes i 0 LongScriptLine
          (verdict_of (finds model lines) ≡ objected_at 1 1 NoReset) e
          (λ t z q. absurd (long-suc i t (s (suc i))))
          (λ t h. absurd (omega arith))

-- ---- the claim

seven_nine : NoReset ≢ BadTraces
seven_nine = apart NoReset BadTraces (λ e. omega arith)

-- 9 is not found
found_nine : (model : Model) (lines : List (List ℕ)) (n p : ℕ)
    → verdict_of (finds model lines) ≡ objected_at n p BadTraces → ⊥
found_nine model lines n p e =
    verdict-no (finds model lines) n p BadTraces ⊥ e
    (λ a b c d. seven_nine (sym d))
    (λ i a b.
    stop_split model lines start_extremes i p BadTraces ⊥ a (λ t z q. apart BadTraces LongScriptLine (λ u. omega arith) z)
    (λ t h. omega arith))

module _ (model : Model) (script : List ℕ) where
  -- the check's verdict v, where the model fits and where it doesn't
  by_model : (v : Verdict) (Goal : Type 0) → check_of model script ≡ v
      → (model_fits model ≡ true → verdict_of (finds model (lines_of script)) ≡ v → Goal)
      → (model_fits model ≡ false → objected_at 0 0 BadTraces ≡ v → Goal) → Goal
  by_model v G e f g =
      split (model_fits model)
      (λ h. f h (sym (check_fits model script h) ∙ e))
      (λ h. g h (sym (check_unfit model script h) ∙ e))

  yes_case : (check_of model script ≡ passes) ↔ AllPass model (lines_of script)
  yes_case = (
    (λ e.
        by_model passes (AllPass model (lines_of script)) e
        (λ h f. all_pass model (lines_of script) h (verdict-fine (finds model (lines_of script)) f))
        (λ h f. never (cc))),
    (λ a.
        let h = start_fits model a.startable in
        check_fits model script h ∙ ap verdict_of (fine_back model (lines_of script) h a)),
  )

  no_case : (n p : ℕ) (r : Refusal) → check_of model script ≡ objected_at n p r
      → r ≢ NoReset → r ≢ LongScriptLine → r ≢ BadTraces
      → FirstRefused model (lines_of script) n p r
  no_case n p r e x y z =
      by_model (objected_at n p r) (FirstRefused model (lines_of script) n p r) e
      (λ h f.
      verdict-no (finds model (lines_of script)) n p r (FirstRefused model (lines_of script) n p r) f
      (λ a b c d. absurd (x d))
      (λ i a b. rw b (refused-first model (lines_of script) i p r a h x y)))
      (λ h f. absurd (z (sym (same_named 0 n 0 p BadTraces r f).2)))

  seven_case : (n p : ℕ)
      → (check_of model script ≡ objected_at n p NoReset) ↔ (Startable model × NotBegun (lines_of script) n p)
  seven_case n p = (
    (λ e.
        by_model (objected_at n p NoReset) (Startable model × NotBegun (lines_of script) n p) e
        (λ h f. (
          fits-start model h,
          verdict-no (finds model (lines_of script)) n p NoReset (NotBegun (lines_of script) n p) f
              (λ a b c d. rw (b, c) (no-command model (lines_of script) a))
              (λ i a b. rw b (not-begun model (lines_of script) i p a)),
        ))
        (λ h f. absurd (seven_nine (sym (same_named 0 n 0 p BadTraces NoReset f).2)))),
    (λ a.
        let h = start_fits model a.0 in
        check_fits model script h ∙ begun-back model (lines_of script) h n p a.1),
  )

  long-number : model_fits model ≡ true → (n p : ℕ) → LongAt model (lines_of script) n p
      → check_of model script ≡ objected_at n p LongScriptLine
  long-number fits zero p a = absurd (false≢true (sym (short-zero model (lines_of script)) ∙ a.long))
  long-number fits (suc j) p a =
      check_fits model script fits ∙ (ap verdict_of (long-back model (lines_of script) fits j p a) ∙ rw a.nowhere refl)

  eight_case : (n p : ℕ)
      → (check_of model script ≡ objected_at n p LongScriptLine) ↔ (Startable model × LongAt model (lines_of script) n p)
  eight_case n p = (
    (λ e.
        by_model (objected_at n p LongScriptLine) (Startable model × LongAt model (lines_of script) n p) e
        (λ h f. (
          fits-start model h,
          verdict-no (finds model (lines_of script)) n p LongScriptLine (LongAt model (lines_of script) n p) f
              (λ a b c d. absurd (seven-eight (sym d)))
              (λ i a b. rw b (long_at model (lines_of script) i p a)),
        ))
        (λ h f.
        absurd (apart BadTraces LongScriptLine (λ u. omega arith) (same_named 0 n 0 p BadTraces LongScriptLine f).2))),
    (λ a. long-number (start_fits model a.0) n p a.1),
  )

  nine_case : (n p : ℕ)
      → (check_of model script ≡ objected_at n p BadTraces)
      ↔ (StartAnswers model (Err BadTraces) × (n ≡ 0) × (p ≡ 0))
  nine_case n p = (
    (λ e.
        by_model (objected_at n p BadTraces) (StartAnswers model (Err BadTraces) × (n ≡ 0) × (p ≡ 0)) e
        (λ h f. absurd (found_nine model (lines_of script) n p f))
        (λ h f.
        let k = same_named 0 n 0 p BadTraces BadTraces f in
        (unfit_start model h, sym k.0, sym k.1))),
    (λ a. check_unfit model script (start_unfit model a.0) ∙ rw (a.1, a.2) refl),
  )

  pub demand3 : Demand3 model script
  demand3 =
      record {
        yes = yes_case;
        no = no_case;
        seven = seven_case;
        eight = eight_case;
        nine = nine_case;
        course = λ s.
            let h = start_fits model s in
            (course_of model h low (lines_of script), course-fresh model h low (lines_of script));
      }
