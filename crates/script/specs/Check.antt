-- The script check: §12.7, §12.8, §13.1, §13.2, §13.3, §13.4, §13.5, §13.7 and §13.8.
use Rattle.std.specs.Prelude.{ℕ, suc, ◌+◌, Bool, cond, List, [], ◌∷◌, ltb, length, Ok, Err}
use Rattle.split.specs.Divide.{parts}
use Rattle.outcome.specs.declared.Refusal.{Refusal}
use Rattle.outcome.specs.declared.Refusal.TheVariants.{NoReset, LongScriptLine, BadTraces}
use Rattle.outcome.specs.Code.{Outcome}
use Rattle.outcome.specs.Answer.{Answer, passed, refused_at}
use Rattle.command.specs.Parsed.{parsed_of}
use Rattle.line_text.specs.Clean.{line_limit, lf}
use Rattle.line_text.specs.Texts.{texts_of}
use Rattle.extreme_courses.specs.Model.{model_fits}
use Rattle.extreme_courses.specs.declared.Model.{Model}
use Rattle.extreme_courses.specs.Extremes.{before_line, text_refusal, text_after, start_extremes}
use Rattle.extreme_courses.specs.declared.Extremes.{Extremes}
use Rattle.verdict.specs.Verdict.{Verdict, passes, objected_at}

-- ---- a line

-- §2.7: the answer to a line's commands from a place on: a refusal of the first one, else what the later ones answer
unfoldable pub answer_at : Outcome → ℕ → Answer → Answer
answer_at (Ok _) place later = later
answer_at (Err r) place later = refused_at r place

-- §13.4 and §13.5: the first refusal among a line's commands, with its place
unfoldable pub texts_answer : Model → ℕ → List (List ℕ) → Extremes → Answer
texts_answer model place [] b = passed
texts_answer model place (t ∷ ts) b =
    let p = parsed_of t in
    answer_at (text_refusal p b) place (texts_answer model (place + 1) ts (text_after model p b))

-- §13.9: what is carried past a line's commands, with no event between them (§2.8)
unfoldable pub texts_after : Model → List (List ℕ) → Extremes → Extremes
texts_after model [] b = b
texts_after model (t ∷ ts) b = texts_after model ts (text_after model (parsed_of t) b)

-- §12.8: whether a script's line has more than 256 bytes
abbrev pub line_too_long : List ℕ → Bool
line_too_long line = ltb line_limit (length line)

-- §13.3: the answer to a line: 8 at place 0 where it is too long; §13.4 and §13.5: else 7, 1, 2 or 3 by its commands,
-- with what can happen before it (§13.9)
unfoldable pub line_answer : Model → List ℕ → Extremes → Answer
line_answer model l b =
    cond (line_too_long l) (refused_at LongScriptLine 0) (texts_answer model 1 (texts_of l) (before_line model b))

-- §13.9: what is carried past a line
abbrev pub line_after : Model → List ℕ → Extremes → Extremes
line_after model l b = texts_after model (texts_of l) (before_line model b)

-- ---- a list of lines

-- §13.4, §13.7 and §13.8: what is found in a list of lines: nothing is refused; there is no command at all; or the
-- first refusal, with the index of its line, counted from 0, and its place
pub data Finding : Type 0 where
  fine : Finding
  no_command : Finding
  stop : (index place : ℕ) (r : Refusal) → Finding

-- the same, behind one more line
abbrev pub later : Finding → Finding
later fine = fine
later no_command = no_command
later (stop i place r) = stop (suc i) place r

-- §13.8: a line's answer, and what is found behind it: the first refused line counts
unfoldable pub found_by : Answer → Finding → Finding
found_by (Ok _) rest = later rest
found_by (Err e) rest = stop 0 e.place e.refusal

-- §13.3: what the check finds in the lines of a script, line by line
unfoldable pub finding : Model → List (List ℕ) → Extremes → Finding
finding model [] b = cond b.begun fine no_command
finding model (l ∷ ls) b = found_by (line_answer model l b) (finding model ls (line_after model l b))

-- ---- the verdict

-- §13.8: the number of the line at an index, counted from 1
abbrev pub line_number : ℕ → ℕ
line_number i = suc i

-- §13.7 and §13.8: what the check says of what it finds; §12.7 and §13.4: a script without a command is 7 at line 1,
-- place 1
abbrev pub verdict_of : Finding → Verdict
verdict_of fine = passes
verdict_of no_command = objected_at 1 1 NoReset
verdict_of (stop i place r) = objected_at (line_number i) place r

-- §13.1: the last line may lack its LF; no bytes after the last LF are no line
unfoldable pub without_last : List (List ℕ) → List (List ℕ)
without_last [] = []
without_last (l ∷ []) = last_line l
  where
    last_line : List ℕ → List (List ℕ)
    last_line [] = []
    last_line (b ∷ bs) = (b ∷ bs) ∷ []
without_last (l ∷ m ∷ more) = l ∷ without_last (m ∷ more)

-- §13.1: the lines of a script
abbrev pub lines_of : List ℕ → List (List ℕ)
lines_of script = without_last (parts lf script)

-- §13.2: 9 comes first, at line 0 and place 0; then the verdict on the lines
unfoldable pub check_of : Model → List ℕ → Verdict
check_of model script =
    cond (model_fits model) (verdict_of (finding model (lines_of script) start_extremes)) (objected_at 0 0 BadTraces)
