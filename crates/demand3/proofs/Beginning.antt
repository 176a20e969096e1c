-- How a script begins, by what the check finds: with *RST, with another command, or with none.
use Prim.Native.Nat.{ℕ, suc, ◌+◌, ◌≤◌}
use native.Mathlib.Omega.{arith}
use mathlib.Core.Bool.{Bool, true, false, ◌||◌}
use mathlib.Core.Path.{◌≡◌, refl, sym, ap, ◌∙◌}
use mathlib.Core.Logic.{◌≢◌}
use mathlib.Core.List.{List, [], ◌∷◌}
use Rattle.std.specs.Prelude.{Ok, Err, Some, None}
use Rattle.laws.proofs.Tests.{never}
use Rattle.outcome.specs.declared.Refusal.{Refusal}
use Rattle.outcome.specs.declared.Refusal.TheVariants.{NoReset, LongScriptLine}
use Rattle.outcome.specs.Code.{done}
use Rattle.command.specs.Parsed.{parsed_of, Parsed}
use Rattle.line_text.specs.Texts.{texts_of}
use Rattle.outcome.specs.Answer.{Answer, passed, refused_at}
use Rattle.extreme_courses.specs.declared.Model.{Model}
use Rattle.extreme_courses.specs.Extremes.{resets, before_line, kind_refusal, text_refusal, kind_after, text_after}
use Rattle.extreme_courses.specs.declared.Extremes.{Extremes}
use Rattle.script.specs.Check.{texts_answer, texts_after, line_answer, line_after}
use Rattle.script.specs.Check.{Finding, fine, no_command, stop, later, found_by, finding}
use Rattle.demand3.specs.Demand3.{FirstCommand, none, first, first_command_by, first_command_in, or_else, first_command_from, is_rst_command}
use Rattle.demand3.proofs.FirstRefusal.{not-passed, not_done, answer-passed, answer_split}
use Rattle.demand3.proofs.Witness.{refused-same}
use Rattle.demand3.proofs.LongLines.{number_of, begun_texts, begun-number, event-begun, passed-short, refused_split}

-- ---- one command before *RST: it is empty, *RST, or another

-- it is empty: the check goes on as it was
record Skipped (model : Model) (b : Extremes) (p : Parsed) (line place : ℕ) (later : FirstCommand) : Type 0 where
  outcome : text_refusal p b ≡ done
  after : text_after model p b ≡ b
  lead : first_command_by p line place later ≡ later

-- it is *RST
record Begun (model : Model) (b : Extremes) (p : Parsed) (line place : ℕ) (later : FirstCommand) : Type 0 where
  outcome : text_refusal p b ≡ done
  after : (text_after model p b).begun ≡ true
  lead : first_command_by p line place later ≡ first line place p
  reset : is_rst_command p ≡ true

-- it is another: 7
record Unled (b : Extremes) (p : Parsed) (line place : ℕ) (later : FirstCommand) : Type 0 where
  outcome : text_refusal p b ≡ Err NoReset
  lead : first_command_by p line place later ≡ first line place p
  reset : is_rst_command p ≡ false

or-true : (a b : Bool) → b ≡ true → (a || b) ≡ true
or-true true b e = refl
or-true false b e = e

lead_split : (model : Model) (b : Extremes) → b.begun ≡ false
    → (p : Parsed) (line place : ℕ) (later : FirstCommand) (Goal : Type 0)
    → (Skipped model b p line place later → Goal) → (Begun model b p line place later → Goal)
    → (Unled b p line place later → Goal) → Goal
unfolding text_refusal text_after first_command_by is_rst_command
lead_split model b k (Ok None) line place later G f g h = f (record { outcome = refl; after = refl; lead = refl })
lead_split model b k (Err r) line place later G f g h =
    h (record { outcome = rw k refl; lead = refl; reset = refl })
lead_split model b k (Ok (Some c)) line place later G f g h = by (resets c.kind) refl where
  by : (t : Bool) → resets c.kind ≡ t → G
  by true e =
      g (record {
        outcome = unfold kind_refusal in rw (k, e) refl;
        after = unfold kind_after in or-true b.begun (resets c.kind) e;
        lead = refl;
        reset = e;
      })
  by false e = h (record { outcome = unfold kind_refusal in rw (k, e) refl; lead = refl; reset = e })

-- ---- a line before *RST

module _ (model : Model) (line : ℕ) (Goal : Type 0) where
  early_passed : (place : ℕ) (ts : List (List ℕ)) (b : Extremes) → b.begun ≡ false
      → texts_answer model place ts b ≡ passed
      → (first_command_in line place ts ≡ none → (texts_after model ts b).begun ≡ false → Goal)
      → ((q : ℕ) (c : Parsed) → first_command_in line place ts ≡ first line q c → is_rst_command c ≡ true → (texts_after model ts b).begun
      ≡ true → Goal) → Goal
  unfolding texts_answer texts_after first_command_in
  early_passed place [] b k e f g = f refl k
  early_passed place (t ∷ ts) b k e f g =
      let p = parsed_of t in
      let a = answer-passed (text_refusal p b) place (texts_answer model (place + 1) ts (text_after model p b)) e in
      lead_split model b k p line place (first_command_in line (place + 1) ts) Goal
      (λ s.
      let n : texts_answer model (place + 1) ts b ≡ passed = rw s.after at a.1 in
      early_passed (place + 1) ts b k n
      (λ u v. f (s.lead ∙ u) (ap (λ (y : Extremes). (texts_after model ts y).begun) s.after ∙ v))
      (λ q c u v w. g q c (s.lead ∙ u) v (ap (λ (y : Extremes). (texts_after model ts y).begun) s.after ∙ w)))
      (λ s. g place p s.lead s.reset (begun_texts model ts (text_after model p b) s.after))
      (λ s. not_done NoReset (sym s.outcome ∙ a.0))

  early_refused : (place : ℕ) (ts : List (List ℕ)) (b : Extremes) (r : Refusal) (p : ℕ) → b.begun ≡ false
      → texts_answer model place ts b ≡ refused_at r p
      → ((c : Parsed) → r ≡ NoReset → first_command_in line place ts ≡ first line p c → is_rst_command c ≡ false → Goal)
      → ((q : ℕ) (c : Parsed) → first_command_in line place ts ≡ first line q c → is_rst_command c ≡ true → number_of r ≤ 3 → Goal) → Goal
  unfolding texts_answer first_command_in
  early_refused place [] b r p k e f g = not-passed r p (sym e)
  early_refused place (t ∷ ts) b r p k e f g =
      let x = parsed_of t in
      let split = answer_split (text_refusal x b) place (texts_answer model (place + 1) ts (text_after model x b)) p r Goal
      e in
      lead_split model b k x line place (first_command_in line (place + 1) ts) Goal
      (λ s.
      split
      (λ u v.
      let n : texts_answer model (place + 1) ts b ≡ refused_at r p = rw s.after at v in
      early_refused (place + 1) ts b r p k n (λ c y z w. f c y (s.lead ∙ z) w) (λ q c y z w. g q c (s.lead ∙ y) z w))
      (λ u v. not_done r (sym u ∙ s.outcome)))
      (λ s.
      split
      (λ u v. g place x s.lead s.reset (begun-number model (place + 1) ts (text_after model x b) r p s.after v))
      (λ u v. not_done r (sym u ∙ s.outcome)))
      (λ s.
      split
      (λ u v. not_done NoReset (sym s.outcome ∙ u))
      (λ u v. f x (refused-same _ _ (sym u ∙ s.outcome)) (s.lead ∙ ap (λ (n : ℕ). first line n x) v) s.reset))

-- ---- the lines of a script

seven-eight : NoReset ≢ LongScriptLine
seven-eight z = let y : ◌≡◌ {A = ℕ} 7 8 = ap number_of z in absurd (omega arith)

lead_line : (line place : ℕ) (ts : List (List ℕ)) (m q : ℕ) (c : Parsed) → first_command_in line place ts ≡ first m q c → line ≡ m
unfolding first_command_in
lead_line line place [] m q c e = never (cc)
lead_line line place (t ∷ ts) m q c e = by (parsed_of t) e (lead_line line (place + 1) ts m q c) where
  by : (p : Parsed) → first_command_by p line place (first_command_in line (place + 1) ts) ≡ first m q c
      → (first_command_in line (place + 1) ts ≡ first m q c → line ≡ m) → line ≡ m
  by (Ok None) f g = g (unfold first_command_by in f)
  by (Err r) f g = let z : first line place (Err r) ≡ first m q c = unfold first_command_by in f in cc
  by (Ok (Some k)) f g = let z : first line place (Ok (Some k)) ≡ first m q c = unfold first_command_by in f in cc

lead_from : (line : ℕ) (ls : List (List ℕ)) (m q : ℕ) (c : Parsed) → first_command_from line ls ≡ first m q c → line ≤ m
unfolding first_command_from
lead_from line [] m q c e = never (cc)
lead_from line (l ∷ ls) m q c e = by (first_command_in line 1 (texts_of l)) refl e (lead_from (line + 1) ls m q c) where
  by : (x : FirstCommand) → first_command_in line 1 (texts_of l) ≡ x → or_else x (first_command_from (line + 1) ls) ≡ first m q c
      → (first_command_from (line + 1) ls ≡ first m q c → line + 1 ≤ m) → line ≤ m
  by none p f g = omega (arith, g (unfold or_else in f))
  by (first n z d) p f g =
      let y : first n z d ≡ first m q c = unfold or_else in f in
      let x : line ≡ n = lead_line line 1 (texts_of l) n z d p in
      let w : n ≡ m = cc in
      omega arith

skip_line : (line : ℕ) (l : List ℕ) (ls : List (List ℕ)) → first_command_in line 1 (texts_of l) ≡ none
    → first_command_from line (l ∷ ls) ≡ first_command_from (line + 1) ls
unfolding first_command_from or_else
skip_line line l ls e = rw e refl

take-line : (line : ℕ) (l : List ℕ) (ls : List (List ℕ)) (n q : ℕ) (c : Parsed)
    → first_command_in line 1 (texts_of l) ≡ first n q c → first_command_from line (l ∷ ls) ≡ first n q c
unfolding first_command_from or_else
take-line line l ls n q c e = rw e refl

-- ---- after *RST

-- neither 7 nor a script without a command
abbrev pub AfterReset : Finding → Type 0
AfterReset fine = Unit {0}
AfterReset no_command = ⊥
AfterReset (stop i p r) = r ≢ NoReset

begun-later : (v : Finding) → AfterReset v → AfterReset (later v)
begun-later fine k = tt
begun-later no_command k = absurd k
begun-later (stop i p r) k = k

small_number : (r : Refusal) → number_of r ≤ 3 → r ≢ NoReset
small_number r h e = let y : number_of r ≡ 7 = ap number_of e in absurd (omega arith)

begun_found : (model : Model) (ls : List (List ℕ)) (b : Extremes) → b.begun ≡ true → AfterReset (finding model ls b)
unfolding finding
begun_found model [] b k = rw k tt
begun_found model (l ∷ ls) b k = by (line_answer model l b) refl (begun_found model ls (line_after model l b) after) where
  after : (line_after model l b).begun ≡ true
  after = begun_texts model (texts_of l) (before_line model b) (event-begun model b ∙ k)

  by : (a : Answer) → line_answer model l b ≡ a → AfterReset (finding model ls (line_after model l b))
      → AfterReset (found_by a (finding model ls (line_after model l b)))
  by (Ok _) e n = unfold found_by in begun-later (finding model ls (line_after model l b)) n
  by (Err x) e n =
      unfold found_by in
      refused_split model l b x.refusal x.place (x.refusal ≢ NoReset) e (λ t z q y. seven-eight (sym y ∙ z))
      (λ t f h. small_number x.refusal (begun-number model 1 (texts_of l) (before_line model b) x.refusal x.place (event-begun model b ∙ k) f))

-- ---- how it begins

-- Seen from a line number on: with *RST; with another command, where the check stops by 7; with none; or the check
-- stops
-- at an over-long line that no command stands before.
pub data Begins (line : ℕ) (v : Finding) (lead : FirstCommand) : Type 0 where
  with_reset : (n q : ℕ) (c : Parsed) → lead ≡ first n q c → is_rst_command c ≡ true → AfterReset v → Begins line v lead
  with_other : (i p n : ℕ) (c : Parsed) → v ≡ stop i p NoReset → n ≡ line + i → lead ≡ first n p c → is_rst_command c ≡ false
      → Begins line v lead
  with_nothing : v ≡ no_command → lead ≡ none → Begins line v lead
  with_long : (i : ℕ) → v ≡ stop i 0 LongScriptLine → ((n q : ℕ) (c : Parsed) → lead ≡ first n q c → line + i ≤ n)
      → Begins line v lead

begins-later : (line : ℕ) (v : Finding) (lead : FirstCommand) → Begins (line + 1) v lead → Begins line (later v) lead
begins-later line v lead (with_reset n q c u w x) = with_reset n q c u w (begun-later v x)
begins-later line v lead (with_other i p n c e z u w) = with_other (suc i) p n c (ap later e) (omega arith) u w
begins-later line v lead (with_nothing e u) = with_nothing (ap later e) u
begins-later line v lead (with_long i e f) = with_long (suc i) (ap later e) (λ n q c u. omega (arith, f n q c u))

module _ (model : Model) where
  -- a line before *RST that passes
  line_led : (line : ℕ) (l : List ℕ) (ls : List (List ℕ)) (b : Extremes) (Goal : Type 0) → b.begun ≡ false
      → line_answer model l b ≡ passed
      → (first_command_from line (l ∷ ls) ≡ first_command_from (line + 1) ls → (line_after model l b).begun ≡ false → Goal)
      → ((q : ℕ) (c : Parsed) → first_command_from line (l ∷ ls) ≡ first line q c → is_rst_command c ≡ true → (line_after model l b).begun
      ≡ true → Goal) → Goal
  line_led line l ls b Goal k e f g =
      early_passed model line Goal 1 (texts_of l) (before_line model b) (event-begun model b ∙ k) (passed-short model l b e).1
      (λ u v. f (skip_line line l ls u) v)
      (λ q c u v w. g q c (take-line line l ls line q c u) v w)

  pub begins_found : (line : ℕ) (ls : List (List ℕ)) (b : Extremes) → b.begun ≡ false
      → Begins line (finding model ls b) (first_command_from line ls)
  unfolding finding
  begins_found line [] b k = rw k (with_nothing refl (unfold first_command_from in refl))
  begins_found line (l ∷ ls) b k =
      by (line_answer model l b) refl (begins_found (line + 1) ls (line_after model l b))
    where
      by : (a : Answer) → line_answer model l b ≡ a
          → ((line_after model l b).begun ≡ false → Begins (line + 1) (finding model ls (line_after model l b))
          (first_command_from (line + 1) ls))
          → Begins line (found_by a (finding model ls (line_after model l b))) (first_command_from line (l ∷ ls))
      by (Ok _) e next =
          unfold found_by in
          line_led line l ls b _ k e
          (λ u v. rw u (begins-later line (finding model ls (line_after model l b)) (first_command_from (line + 1) ls) (next v)))
          (λ q c u v w.
          with_reset line q c u v
          (begun-later (finding model ls (line_after model l b)) (begun_found model ls (line_after model l b) w)))
      by (Err x) e next =
          unfold found_by in
          refused_split model l b x.refusal x.place _ e
          (λ t z y.
          with_long 0 (rw (z, y) refl) (λ n q c u. omega (arith, lead_from line (l ∷ ls) n q c u)))
          (λ t f h.
          early_refused model line _ 1 (texts_of l) (before_line model b) x.refusal x.place (event-begun model b ∙ k) f
          (λ c z u v. with_other 0 x.place line c (rw z refl) (omega arith) (take-line line l ls line x.place c u) v)
          (λ q c u v w. with_reset line q c (take-line line l ls line q c u) v (small_number x.refusal w)))
