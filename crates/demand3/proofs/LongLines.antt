-- The numbers that the check gives, and the over-long lines of a script, by what it finds.
use Prim.Native.Nat.{ℕ, zero, suc, ◌+◌, ◌≤◌}
use native.Mathlib.Omega.{arith}
use mathlib.Core.Bool.{Bool, true, false, cond, ◌&&◌, ◌||◌}
use mathlib.Core.Path.{◌≡◌, refl, sym}
use mathlib.Core.Logic.{◌≢◌}
use mathlib.Core.List.{List, [], ◌∷◌}
use lib.ListN.{get_or}
use Rattle.std.specs.Prelude.{Err, Some, None, Ok}
use Rattle.outcome.specs.Code.{code_of, done}
use Rattle.outcome.specs.declared.Refusal.{Refusal}
use Rattle.outcome.specs.declared.Refusal.TheVariants.{NotAllowed, NoReset, LongScriptLine}
use Rattle.outcome.proofs.Placed.{told_refusal, told_place}
use Rattle.outcome.specs.Answer.{passed, refused_at}
use Rattle.command.specs.Parsed.{parsed_of, Parsed}
use Rattle.precondition.specs.Allowed.{is_allowed}
use Rattle.line_text.specs.Texts.{texts_of}
use Rattle.extreme_courses.specs.declared.Model.{Model}
use Rattle.extreme_courses.specs.Extremes.{resets, before_line, kind_refusal, text_refusal, kind_after, text_after}
use Rattle.extreme_courses.specs.declared.Extremes.{Extremes}
use Rattle.script.specs.Check.{texts_answer, texts_after, line_too_long, line_answer, line_after, stop, finding}
use Rattle.invariant.proofs.Storable.{StorableParsed, parsed_storable}
use Rattle.demand3.proofs.FirstRefusal.{not-passed, not_done, Passes, passes-here, passes-next, both_at, stop-answer}
use Rattle.demand3.proofs.FirstRefusal.{answer_split}
use Rattle.demand3.proofs.Witness.{refused-same}

-- ---- the numbers that the check gives

abbrev pub number_of : Refusal → ℕ
number_of r = (code_of r).number

-- the largest one of a command's refusal: 3 after *RST, 7 before it
abbrev most : Bool → ℕ
most begun = cond begun 3 7

kind_number : (begun allowed reset : Bool) (r : Refusal)
    → cond begun (cond allowed done (Err NotAllowed))
    (cond reset done (Err NoReset)) ≡ Err r
    → number_of r ≤ most begun
kind_number true true reset r e = not_done r (sym e)
kind_number true false reset r e = rw (sym (refused-same _ _ e)) (omega arith)
kind_number false allowed true r e = not_done r (sym e)
kind_number false allowed false r e = rw (sym (refused-same _ _ e)) (omega arith)

text-number : (p : Parsed) (b : Extremes) (r : Refusal) → StorableParsed p → text_refusal p b ≡ Err r
    → number_of r ≤ most b.begun
unfolding text_refusal kind_refusal
text-number (Ok None) b r k e = not_done r (sym e)
text-number (Err q) b r k e = rw (sym (refused-same _ _ e)) (by b.begun) where
  by : (t : Bool) → number_of (cond t q NoReset) ≤ most t
  by true = omega (arith, k)
  by false = omega arith
text-number (Ok (Some c)) b r k e =
    let allowed = is_allowed b.settings b.low c.kind && is_allowed b.settings b.high c.kind in
    kind_number b.begun allowed (resets c.kind) r e

-- *RST has begun the script for good
most_less : (t u : Bool) → most (t || u) ≤ most t
most_less true u = omega arith
most_less false true = omega arith
most_less false false = omega arith

after-most : (model : Model) (p : Parsed) (b : Extremes) → most (text_after model p b).begun ≤ most b.begun
unfolding text_after kind_after
after-most model (Ok None) b = omega arith
after-most model (Err r) b = omega arith
after-most model (Ok (Some c)) b = most_less b.begun (resets c.kind)

texts_number : (model : Model) (place : ℕ) (ts : List (List ℕ)) (b : Extremes) (r : Refusal) (p : ℕ)
    → texts_answer model place ts b ≡ refused_at r p → number_of r ≤ most b.begun
unfolding texts_answer
texts_number model place [] b r p e = not-passed r p (sym e)
texts_number model place (t ∷ ts) b r p e =
    let after = text_after model (parsed_of t) b in
    answer_split (text_refusal (parsed_of t) b) place (texts_answer model (place + 1) ts after) p r _ e
    (λ f g. omega (arith, texts_number model (place + 1) ts after r p g, after-most model (parsed_of t) b))
    (λ f g. text-number (parsed_of t) b r (parsed_storable t) f)

pub begun-number : (model : Model) (place : ℕ) (ts : List (List ℕ)) (b : Extremes) (r : Refusal) (p : ℕ) → b.begun ≡ true
    → texts_answer model place ts b ≡ refused_at r p → number_of r ≤ 3
begun-number model place ts b r p k e = let h = texts_number model place ts b r p e in rw k at h

begun_kept : (model : Model) (p : Parsed) (b : Extremes) → b.begun ≡ true → (text_after model p b).begun ≡ true
unfolding text_after kind_after
begun_kept model (Ok None) b e = e
begun_kept model (Err r) b e = e
begun_kept model (Ok (Some c)) b e = rw e refl

pub begun_texts : (model : Model) (ts : List (List ℕ)) (b : Extremes) → b.begun ≡ true
    → (texts_after model ts b).begun ≡ true
unfolding texts_after
begun_texts model [] b e = e
begun_texts model (t ∷ ts) b e =
    begun_texts model ts (text_after model (parsed_of t) b) (begun_kept model (parsed_of t) b e)

pub event-begun : (model : Model) (b : Extremes) → (before_line model b).begun ≡ b.begun
unfolding before_line
event-begun model b = refl

most-seven : (t : Bool) → most t ≤ 7
most-seven true = omega arith
most-seven false = omega arith

-- ---- a whole line's answer

module _ (model : Model) (l : List ℕ) (b : Extremes) where
  pub passed-short : line_answer model l b ≡ passed
      → (line_too_long l ≡ false) × (texts_answer model 1 (texts_of l) (before_line model b) ≡ passed)
  unfolding line_answer
  passed-short = by (line_too_long l) where
    by : (t : Bool)
        → cond t (refused_at LongScriptLine 0) (texts_answer model 1 (texts_of l) (before_line model b)) ≡ passed
        → (t ≡ false) × (texts_answer model 1 (texts_of l) (before_line model b) ≡ passed)
    by true e = not-passed LongScriptLine 0 e
    by false e = (refl, e)

  -- 8 is found at an over-long line, a number up to 7 of a line that runs
  pub refused_split : (r : Refusal) (p : ℕ) (Goal : Type 0) → line_answer model l b ≡ refused_at r p
      → (line_too_long l ≡ true → r ≡ LongScriptLine → p ≡ 0 → Goal)
      → (line_too_long l ≡ false → texts_answer model 1 (texts_of l) (before_line model b) ≡ refused_at r p → number_of r ≤ 7 → Goal)
      → Goal
  unfolding line_answer
  refused_split r p Goal = by (line_too_long l) where
    by : (t : Bool)
        → cond t (refused_at LongScriptLine 0) (texts_answer model 1 (texts_of l) (before_line model b)) ≡ refused_at r p
        → (t ≡ true → r ≡ LongScriptLine → p ≡ 0 → Goal)
        → (t ≡ false → texts_answer model 1 (texts_of l) (before_line model b) ≡ refused_at r p → number_of r ≤ 7 → Goal) → Goal
    by true e f g = f refl (sym (told_refusal e)) (sym (told_place e))
    by false e f g =
        let h = texts_number model 1 (texts_of l) (before_line model b) r p e in
        g refl e (omega (arith, most-seven (before_line model b).begun))

  pub refused-short : (r : Refusal) (p : ℕ) → r ≢ LongScriptLine → line_answer model l b ≡ refused_at r p
      → (line_too_long l ≡ false) × (texts_answer model 1 (texts_of l) (before_line model b) ≡ refused_at r p)
  refused-short r p n e = refused_split r p _ e (λ t z q. absurd (n z)) (λ t f h. (t, f))

-- ---- over-long lines

pub short-passes : (model : Model) (ls : List (List ℕ)) (b : Extremes) (n : ℕ) → Passes (finding model ls b) n
    → line_too_long (get_or ls n []) ≡ false
short-passes model [] b n h = refl
short-passes model (l ∷ ls) b zero h = (passed-short model l b (passes-here model l ls b zero h)).0
short-passes model (l ∷ ls) b (suc n) h = short-passes model ls (line_after model l b) n (passes-next model l ls b n h)

-- the line where the check stops is over-long, and it says 8 at place 0; or it is not, and it says another number
pub stop_split : (model : Model) (ls : List (List ℕ)) (b : Extremes) (i p : ℕ) (r : Refusal) (Goal : Type 0)
    → finding model ls b ≡ stop i p r → (line_too_long (get_or ls i []) ≡ true → r ≡ LongScriptLine → p ≡ 0 → Goal)
    → (line_too_long (get_or ls i []) ≡ false → number_of r ≤ 7 → Goal) → Goal
stop_split model ls b i p r Goal e f g =
    refused_split model (get_or ls i []) (both_at model ls b i) r p Goal (stop-answer model ls b i p r e) f
    (λ t x h. g t h)
