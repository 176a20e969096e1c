-- A turn of the loop over a script's lines. Assumes nothing.
use Prim.Native.Nat.{ℕ, suc, ◌+◌, ◌≤◌}
use mathlib.Core.Bool.{Bool, true, false, cond}
use mathlib.Core.Path.{◌≡◌, refl, sym, ap, ◌∙◌}
use mathlib.Core.List.{List, [], ◌∷◌}
use native.Mathlib.Omega.{arith}
use lib.ListN.{length}
use Rattle.std.proofs.Common.{Result, Ok, Err}
use Rattle.laws.proofs.Tests.{never}
use Rattle.split.specs.Divide.{parts}
use Rattle.outcome.specs.declared.Refusal.{Refusal}
use Rattle.outcome.specs.declared.Refusal.TheVariants.{NoReset}
use Rattle.outcome.specs.Answer.{Answer, passed}
use Rattle.outcome.specs.declared.PlacedRefusal.{PlacedRefusal}
use Rattle.line_text.specs.Clean.{lf, cleaned}
use Rattle.command.specs.Parsed.{parsed_of}
use Rattle.extreme_courses.specs.declared.Model.{Model}
use Rattle.extreme_courses.specs.Extremes.{before_line, text_refusal, text_after, start_extremes}
use Rattle.extreme_courses.specs.declared.Extremes.{Extremes}
use Rattle.verdict.specs.Verdict.{Verdict, passes, objected_at}
use Rattle.verdict.specs.declared.Objection.{Objection}
use Rattle.script.specs.Check.{Finding, fine, no_command, stop, later, line_answer, line_after, found_by, finding}
use Rattle.script.specs.Check.{verdict_of, without_last, lines_of, answer_at, texts_answer, texts_after}
use Rattle.script.specs.Parts.{checked}

-- ---- no bytes after the last LF

-- as a line, they are not refused and begin no script
later_begun : (t : Bool) → cond t fine no_command ≡ later (cond t fine no_command)
later_begun true = refl
later_begun false = refl

none_refused : (model : Model) (b : Extremes) → line_answer model [] b ≡ passed
unfolding line_answer texts_answer answer_at text_refusal parsed_of parts cleaned
none_refused model b = refl

none_begins : (model : Model) (b : Extremes) → (line_after model [] b).begun ≡ b.begun
unfolding texts_after text_after before_line parsed_of parts cleaned
none_begins model b = refl

no_bytes : (model : Model) (b : Extremes) → finding model [] b ≡ finding model ([] ∷ []) b
unfolding finding found_by
no_bytes model b = rw (none_refused model b, none_begins model b) (later_begun b.begun)

-- so that they may be checked as one
every_part : (model : Model) (ps : List (List ℕ)) (b : Extremes) →
    finding model (without_last ps) b ≡ finding model ps b
unfolding finding without_last
every_part model [] b = refl
every_part model ([] ∷ []) b = no_bytes model b
every_part model ((c ∷ cs) ∷ []) b = refl
every_part model (l ∷ m ∷ more) b =
    ap (found_by (line_answer model l b)) (every_part model (m ∷ more) (line_after model l b))

-- ---- a turn

-- the verdict on what is found in the lines from a line number on
abbrev numbered : ℕ → Finding → Verdict
numbered line fine = passes
numbered line no_command = objected_at 1 1 NoReset
numbered line (stop i place r) = objected_at (line + i) place r

from_one : (v : Finding) → verdict_of v ≡ numbered 1 v
from_one fine = refl
from_one no_command = refl
from_one (stop i place r) = let z : suc i ≡ 1 + i = omega arith in rw z

from_here : (line place : ℕ) (r : Refusal) → numbered line (stop 0 place r) ≡ objected_at line place r
from_here line place r = let z : line + 0 ≡ line = omega arith in rw z

from_next : (line : ℕ) (v : Finding) → numbered line (later v) ≡ numbered (line + 1) v
from_next line fine = refl
from_next line no_command = refl
from_next line (stop i place r) = let z : line + suc i ≡ line + 1 + i = omega arith in rw z

-- what a line's check gives, a refusal as the verdict tells it
abbrev pub numbered_by : ℕ → Result Extremes PlacedRefusal → Result Extremes Objection
numbered_by line (Ok after) = Ok after
numbered_by line (Err f) = Err (record { line = line; place = f.place; refusal = f.refusal })

-- what is left of the script says from here what the whole says from the start
pub record Left (model : Model) (script : List ℕ) (b : Extremes) (line : ℕ) (left : List (List ℕ)) : Type 0 where
  pub report : verdict_of (finding model (lines_of script) start_extremes) ≡ numbered line (finding model left b)
  pub counted : line + length left ≤ length (parts lf script) + 1

pub at_start : (model : Model) (script : List ℕ) (left : List (List ℕ)) → left ≡ parts lf script
    → Left model script start_extremes 1 left
at_start model script left e =
    rw e (record {
      report = from_one (finding model (lines_of script) start_extremes)
          ∙ ap (numbered 1) (every_part model (parts lf script) start_extremes);
      counted = omega arith;
    })

module _ {model : Model} {script : List ℕ} {b : Extremes} {line : ℕ} {left : List (List ℕ)}
    (v : Left model script b line left) where
  abbrev whole : Verdict
  whole = verdict_of (finding model (lines_of script) start_extremes)

  -- no line is left
  pub over_yes : left ≡ [] → b.begun ≡ true → passes ≡ whole
  unfolding finding
  over_yes h e = sym (v.report ∙ rw (h, e))

  pub over_no : left ≡ [] → b.begun ≡ false → objected_at 1 1 NoReset ≡ whole
  unfolding finding
  over_no h e = sym (v.report ∙ rw (h, e))

  module _ (text : List ℕ) (rest : List (List ℕ)) (more : left ≡ text ∷ rest) (s : Result Extremes PlacedRefusal)
      (is : s ≡ checked (line_answer model text b) (line_after model text b)) where
    here : finding model left b ≡ found_by (line_answer model text b) (finding model rest (line_after model text b))
    unfolding finding
    here = ap (λ ls. finding model ls b) more

    -- what the line's answer is, by what its check gives
    was_refused : (first : PlacedRefusal) (a : Answer) (e : Extremes) → Err first ≡ checked a e → a ≡ Err first
    unfolding checked
    was_refused first (Ok u) e g = never (cc)
    was_refused first (Err f) e g = let same : first ≡ f = cc in rw same

    had_passed : (after : Extremes) (a : Answer) (e : Extremes) → Ok after ≡ checked a e →
        (a ≡ passed) × (after ≡ e)
    unfolding checked
    had_passed after (Ok u) e g = (refl, cc)
    had_passed after (Err f) e g = never (cc)

    -- the line is refused
    named_at : (first : PlacedRefusal) → s ≡ Err first → objected_at line first.place first.refusal ≡ whole
    unfolding found_by
    named_at first f =
        let a = was_refused first _ _ (sym f ∙ is) in
        sym (v.report ∙ rw (here, a) (from_here line first.place first.refusal))

    pub named : (o : Objection) → numbered_by line s ≡ Err o → Err o ≡ whole
    named o f = by s refl where
      by : (t : Result Extremes PlacedRefusal) → s ≡ t → Err o ≡ whole
      by (Ok after) e = let g : numbered_by line (Ok after) ≡ Err o = rw e at f in never (cc)
      by (Err first) e =
          let g : numbered_by line (Err first) ≡ Err o = rw e at f in
          let told : record { line = line; place = first.place; refusal = first.refusal } ≡ o = cc in
          rw (sym told) (named_at first e)

    -- it passes
    pub onward : (after : Extremes) → s ≡ Ok after → Left model script after (line + 1) rest
    unfolding found_by
    onward after f =
        let a = had_passed after _ _ (sym f ∙ is) in
        let c = v.counted in
        let n = ap length more in
        record {
          report = v.report ∙ rw (here, a.0, sym a.1) (from_next line (finding model rest after));
          counted = omega arith;
        }
