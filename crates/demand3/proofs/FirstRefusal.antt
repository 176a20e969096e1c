-- What the check finds in a list of lines: what it says of the first line and of those behind it, and which lines pass.
use Prim.Native.Nat.{ℕ, zero, suc, ◌<◌}
use native.Mathlib.Omega.{arith}
use mathlib.Core.Bool.{Bool, true, false, cond}
use mathlib.Core.Path.{◌≡◌, refl, sym, ap, ap₂, ◌∙◌}
use mathlib.Core.List.{List, [], ◌∷◌}
use lib.ListN.{get_or}
use Rattle.std.specs.Prelude.{Ok, Err}
use Rattle.laws.proofs.Tests.{never}
use Rattle.outcome.specs.declared.Refusal.{Refusal}
use Rattle.outcome.specs.Code.{Outcome, done}
use Rattle.outcome.proofs.Placed.{told_refusal, told_place}
use Rattle.outcome.specs.Answer.{Answer, passed, refused_at}
use Rattle.extreme_courses.specs.declared.Model.{Model}
use Rattle.extreme_courses.specs.declared.Extremes.{Extremes}
use Rattle.script.specs.Check.{answer_at, line_answer, line_after, Finding, fine, no_command, stop, later, found_by, finding}

-- ---- apart

pub not-passed : {A : Type 0} (r : Refusal) (p : ℕ) → refused_at r p ≡ passed → A
not-passed r p e = never (cc)

pub not_done : {A : Type 0} (r : Refusal) → Err r ≡ done → A
not_done r e = never (cc)

-- ---- the first line, and those behind it

-- what is found behind the first line
abbrev earlier : Finding → Finding
earlier fine = fine
earlier no_command = no_command
earlier (stop zero p r) = stop zero p r
earlier (stop (suc i) p r) = stop i p r

earlier-later : (v : Finding) → earlier (later v) ≡ v
earlier-later fine = refl
earlier-later no_command = refl
earlier-later (stop i p r) = refl

not-later : {A : Type 0} (p : ℕ) (r : Refusal) (v : Finding) → stop 0 p r ≡ later v → A
not-later p r fine e = never (cc)
not-later p r no_command e = never (cc)
not-later p r (stop i q s) e = let z : 0 ≡ suc i = cc in absurd (omega arith)

by_later : (a : Answer) (v w : Finding) → found_by a v ≡ later w → (a ≡ passed) × (v ≡ w)
unfolding found_by
by_later (Ok _) v w e = (refl, sym (earlier-later v) ∙ ap earlier e ∙ earlier-later w)
by_later (Err x) v w e = not-later x.place x.refusal w e

by_here : (a : Answer) (v : Finding) (p : ℕ) (r : Refusal) → found_by a v ≡ stop 0 p r → a ≡ refused_at r p
unfolding found_by
by_here (Ok _) v p r e = not-later p r v (sym e)
by_here (Err x) v p r e = let a : x.refusal ≡ r = cc in let b : x.place ≡ p = cc in ap₂ refused_at a b

-- it stops at no line where there is none
pub end-stop : {A : Type 0} (model : Model) (b : Extremes) (i p : ℕ) (r : Refusal) → finding model [] b ≡ stop i p r → A
unfolding finding
end-stop {A} model b i p r = by b.begun where
  by : (t : Bool) → cond t fine no_command ≡ stop i p r → A
  by true e = never (cc)
  by false e = never (cc)

module _ (model : Model) (l : List ℕ) (ls : List (List ℕ)) (b : Extremes) where
  -- it goes on behind the first line
  pub found_later : (v : Finding) → finding model (l ∷ ls) b ≡ later v
      → (line_answer model l b ≡ passed) × (finding model ls (line_after model l b) ≡ v)
  unfolding finding
  found_later v e = by_later (line_answer model l b) (finding model ls (line_after model l b)) v e

  -- it stops there
  pub found_here : (p : ℕ) (r : Refusal) → finding model (l ∷ ls) b ≡ stop 0 p r
      → line_answer model l b ≡ refused_at r p
  unfolding finding
  found_here p r e = by_here (line_answer model l b) (finding model ls (line_after model l b)) p r e

-- ---- the lines that pass

-- the check does not stop before the line of an index, nor at it
abbrev pub Passes : Finding → ℕ → Type 0
Passes fine n = Unit {0}
Passes no_command n = Unit {0}
Passes (stop i p r) n = n < i

by_passes : (a : Answer) (v : Finding) (n : ℕ) → Passes (found_by a v) n → a ≡ passed
unfolding found_by
by_passes (Ok _) v n h = refl
by_passes (Err e) v n h = absurd (omega arith)

by_next : (a : Answer) (v : Finding) (n : ℕ) → Passes (found_by a v) (suc n) → Passes v n
unfolding found_by
by_next (Ok _) fine n h = tt
by_next (Ok _) no_command n h = tt
by_next (Ok _) (stop i p r) n h = omega arith
by_next (Err e) v n h = absurd (omega arith)

module _ (model : Model) (l : List ℕ) (ls : List (List ℕ)) (b : Extremes) where
  pub passes-here : (n : ℕ) → Passes (finding model (l ∷ ls) b) n → line_answer model l b ≡ passed
  unfolding finding
  passes-here n h = by_passes (line_answer model l b) (finding model ls (line_after model l b)) n h

  pub passes-next : (n : ℕ) → Passes (finding model (l ∷ ls) b) (suc n) → Passes (finding model ls (line_after model l b)) n
  unfolding finding
  passes-next n h = by_next (line_answer model l b) (finding model ls (line_after model l b)) n h

-- ---- the line where it stops

-- what is carried to the line of an index
unfoldable pub both_at : Model → List (List ℕ) → Extremes → ℕ → Extremes
both_at model [] b i = b
both_at model (l ∷ ls) b zero = b
both_at model (l ∷ ls) b (suc i) = both_at model ls (line_after model l b) i

pub stop-answer : (model : Model) (ls : List (List ℕ)) (b : Extremes) (i p : ℕ) (r : Refusal)
    → finding model ls b ≡ stop i p r
    → line_answer model (get_or ls i []) (both_at model ls b i) ≡ refused_at r p
unfolding both_at
stop-answer model [] b i p r e = end-stop model b i p r e
stop-answer model (l ∷ ls) b zero p r e = found_here model l ls b p r e
stop-answer model (l ∷ ls) b (suc i) p r e =
    stop-answer model ls (line_after model l b) i p r (found_later model l ls b (stop i p r) e).1

-- ---- a line's commands

-- a line passes where its first command does and the rest; else its answer is the first command's refusal, or the
-- rest's
pub answer-passed : (o : Outcome) (p : ℕ) (a : Answer) → answer_at o p a ≡ passed → (o ≡ done) × (a ≡ passed)
unfolding answer_at
answer-passed (Ok _) p a e = (refl, e)
answer-passed (Err r) p a e = not-passed r p e

pub answer_split : (o : Outcome) (p : ℕ) (a : Answer) (q : ℕ) (r : Refusal) (Goal : Type 0)
    → answer_at o p a ≡ refused_at r q
    → (o ≡ done → a ≡ refused_at r q → Goal) → (o ≡ Err r → p ≡ q → Goal) → Goal
unfolding answer_at
answer_split (Ok _) p a q r G e f g = f refl e
answer_split (Err s) p a q r G e f g =
    g (ap (λ (x : Refusal). Err x) (told_refusal e)) (told_place e)
