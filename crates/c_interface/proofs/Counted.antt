-- Every line and place that the check names of a script shorter than 2^40 bytes can be told. Assumes nothing.
use Prim.Native.Nat.{ℕ, suc, ◌+◌, ◌^◌, ◌≤◌, ◌<◌}
use mathlib.Core.Bool.{Bool, true, false, cond}
use mathlib.Core.Path.{◌≡◌, refl}
use mathlib.Core.List.{List, [], ◌∷◌}
use native.Mathlib.Omega.{arith}
use lib.Dec.{eqb}
use lib.ListN.{length}
use borrow.Author.Tests.{ltb-false}
use Rattle.std.specs.Prelude.{Ok, Err}
use Rattle.split.specs.Divide.{on_head, parts}
use Rattle.std.proofs.Common.{Ok, Err}
use Rattle.outcome.specs.declared.Refusal.TheVariants.{LongScriptLine, BadTraces}
use Rattle.outcome.specs.Code.{Outcome}
use Rattle.outcome.specs.Answer.{Answer, refused_at}
use Rattle.line_text.specs.Clean.{cleaned}
use Rattle.command.specs.Parsed.{parsed_of}
use Rattle.line_text.specs.Texts.{semicolon, texts_of}
use Rattle.line_text.proofs.Bound.{cleaned-length}
use Rattle.extreme_courses.specs.Model.{model_fits}
use Rattle.extreme_courses.specs.declared.Model.{Model}
use Rattle.extreme_courses.specs.Extremes.{before_line, text_refusal, text_after, start_extremes}
use Rattle.extreme_courses.specs.declared.Extremes.{Extremes}
use Rattle.script.specs.Check.{answer_at, texts_answer, line_too_long, line_answer, line_after, without_last, lines_of, check_of}
use Rattle.script.specs.Check.{Finding, fine, no_command, stop, found_by, finding, verdict_of}
use Rattle.split.proofs.Counted.{parts-length}
use Rattle.verdict.specs.Verdict.{Verdict, passes, objected_at}
use Rattle.verdict.specs.PackedNumber.{line_most, place_most}
use Rattle.line_text.specs.Clean.{line_limit}

-- ---- how many lines there are

-- a byte more gives at most one line more
ended-length : (ps : List (List ℕ)) → length (without_last ([] ∷ ps)) ≤ suc (length (without_last ps))
unfolding without_last
ended-length [] = omega arith
ended-length (p ∷ ps) = omega arith

longer-length : (b : ℕ) (ps : List (List ℕ)) → length (without_last (on_head b ps)) ≤ suc (length (without_last ps))
unfolding without_last on_head
longer-length b [] = omega arith
longer-length b (p ∷ []) = omega arith
longer-length b (p ∷ q ∷ ps) = omega arith

-- at most as many lines as there are bytes
lines_length : (s : List ℕ) → length (lines_of s) ≤ length s
unfolding parts
lines_length [] = unfold without_last in omega arith
lines_length (b ∷ bs) =
    by (eqb b 10) (lines_length bs) (ended-length (parts 10 bs)) (longer-length b (parts 10 bs))
  where
    by : (t : Bool) → length (lines_of bs) ≤ length bs
        → length (without_last ([] ∷ parts 10 bs)) ≤ suc (length (lines_of bs))
        → length (without_last (on_head b (parts 10 bs))) ≤ suc (length (lines_of bs))
        → length (without_last (cond t ([] ∷ parts 10 bs) (on_head b (parts 10 bs)))) ≤ suc (length bs)
    by true h f g = omega arith
    by false h f g = omega arith

-- ---- the places of a line's commands

-- an answer whose place can be told
abbrev PlaceFits : Answer → Type 0
PlaceFits (Ok _) = Unit {0}
PlaceFits (Err e) = e.place ≤ place_most

answer-fits : (o : Outcome) (place : ℕ) (later : Answer) → place ≤ place_most → PlaceFits later
    → PlaceFits (answer_at o place later)
unfolding answer_at
answer-fits (Ok _) place later h f = f
answer-fits (Err r) place later h f = h

texts_fit : (model : Model) (place : ℕ) (ts : List (List ℕ)) (b : Extremes) → place + length ts ≤ suc place_most
    → PlaceFits (texts_answer model place ts b)
unfolding texts_answer
texts_fit model place [] b h = tt
texts_fit model place (t ∷ ts) b h =
    answer-fits (text_refusal (parsed_of t) b) place _ (omega arith)
    (texts_fit model (place + 1) ts (text_after model (parsed_of t) b) (omega arith))

-- a line of at most line_limit bytes has at most 257 commands
line-fits : (model : Model) (l : List ℕ) (b : Extremes) → PlaceFits (line_answer model l b)
unfolding line_answer
line-fits model l b = by (line_too_long l) refl where
  by : (t : Bool) → line_too_long l ≡ t
      → PlaceFits (cond t (refused_at LongScriptLine 0) (texts_answer model 1 (texts_of l) (before_line model b)))
  by true e = omega arith
  by false e =
      texts_fit model 1 (texts_of l) (before_line model b)
      (omega (arith, parts-length semicolon (cleaned l), cleaned-length l, ltb-false line_limit (length l) e))

-- ---- the lines of a script

-- what is found in so few lines, at a place that can be told
abbrev FoundFits : ℕ → Finding → Type 0
FoundFits lines fine = Unit {0}
FoundFits lines no_command = Unit {0}
FoundFits lines (stop i place r) = (i < lines) × (place ≤ place_most)

by_fits : (lines : ℕ) (a : Answer) (rest : Finding) → PlaceFits a → FoundFits lines rest
    → FoundFits (suc lines) (found_by a rest)
unfolding found_by
by_fits lines (Ok _) fine f g = tt
by_fits lines (Ok _) no_command f g = tt
by_fits lines (Ok _) (stop i place r) f g = (omega (arith, g.0), g.1)
by_fits lines (Err e) rest f g = (omega arith, f)

lines_fit : (model : Model) (ls : List (List ℕ)) (b : Extremes) → FoundFits (length ls) (finding model ls b)
unfolding finding
lines_fit model [] b = by b.begun where
  by : (t : Bool) → FoundFits 0 (cond t fine no_command)
  by true = tt
  by false = tt
lines_fit model (l ∷ ls) b =
    by_fits (length ls) (line_answer model l b) _ (line-fits model l b) (lines_fit model ls (line_after model l b))

-- a verdict whose line and place can be told
abbrev pub Fits : Verdict → Type 0
Fits (Ok u) = Unit {0}
Fits (Err o) = (o.line ≤ line_most) × (o.place ≤ place_most)

verdict-fits : (lines : ℕ) (v : Finding) → lines ≤ line_most → FoundFits lines v → Fits (verdict_of v)
verdict-fits lines fine h f = tt
verdict-fits lines no_command h f = omega arith
verdict-fits lines (stop i place r) h f = (omega (arith, f.0), f.1)

pub check_fits : (model : Model) (script : List ℕ) → length script < 2 ^ 40 → Fits (check_of model script)
unfolding check_of
check_fits model script h = by (model_fits model) where
  by : (t : Bool)
      → Fits (cond t (verdict_of (finding model (lines_of script) start_extremes)) (objected_at 0 0 BadTraces))
  by true =
      verdict-fits (length (lines_of script)) (finding model (lines_of script) start_extremes)
      (omega (arith, lines_length script)) (lines_fit model (lines_of script) start_extremes)
  by false = omega arith
