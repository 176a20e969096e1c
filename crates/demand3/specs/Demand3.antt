-- Demand 3: what each verdict of the script check says of every course: §13.7 and §13.8. When a script begins with
-- *RST: §13.4; the numbers 7, 8 and 9: §12.7, §12.8 and §13.2.
--
-- Neither a check that always says no nor one that always says yes meets this: a script of `*RST` alone passes, and an
-- empty one does not (crates/examples/specs/Scripts.antt). As wrong programs these two are always_no and always_yes of
-- crates/script/must-fail. Wrong statements of demand 3 are in crates/demand3/must-fail.
use Rattle.std.specs.Prelude.{ℕ, zero, suc, ◌+◌, ◌≤◌, ◌<◌, Bool, true, false, ◌≡◌, ◌≢◌, ◌↔◌, List, [], ◌∷◌, get_or}
use Rattle.std.specs.Prelude.{Err, Some, None, Ok}
use Rattle.outcome.specs.declared.Refusal.{Refusal}
use Rattle.outcome.specs.declared.Refusal.TheVariants.{NoReset, LongScriptLine, BadTraces}
use Rattle.outcome.specs.Answer.{refused_at}
use Rattle.outcome.specs.Answer as answer
use Rattle.command.specs.Parsed.{parsed_of, Parsed}
use Rattle.line_text.specs.Texts.{texts_of}
use Rattle.extreme_courses.specs.Extremes.{resets}
use Rattle.extreme_courses.specs.declared.Model.{Model}
use Rattle.script.specs.Check.{line_too_long, lines_of, check_of}
use Rattle.verdict.specs.Verdict.{passes, objected_at}
use Rattle.demand3.specs.Course.{StartAnswers, Startable, fresh_world, Course, answers}

-- ---- the script itself

-- §13.8: line n, counted from 1
unfoldable pub line_numbered : List (List ℕ) → ℕ → List ℕ
line_numbered lines zero = []
line_numbered lines (suc i) = get_or lines i []

-- §13.3: line n is not over 256 bytes
abbrev pub Short : List (List ℕ) → ℕ → Type 0
Short lines n = line_too_long (line_numbered lines n) ≡ false

-- §13.4: the first command of a script that is not empty, if there is one: its line, its place and what it is read as
pub data FirstCommand : Type 0 where
  none : FirstCommand
  first : (line place : ℕ) (command : Parsed) → FirstCommand

-- §2.6: a command at a line and a place, and what comes later; an empty one keeps its place
unfoldable pub first_command_by : Parsed → ℕ → ℕ → FirstCommand → FirstCommand
first_command_by (Ok None) line place later = later
first_command_by (Err r) line place later = first line place (Err r)
first_command_by (Ok (Some c)) line place later = first line place (Ok (Some c))

-- §13.4: the first among the commands of a line, from a place on
unfoldable pub first_command_in : ℕ → ℕ → List (List ℕ) → FirstCommand
first_command_in line place [] = none
first_command_in line place (t ∷ ts) = first_command_by (parsed_of t) line place (first_command_in line (place + 1) ts)

-- §13.4: the earlier of two, where there is one
unfoldable pub or_else : FirstCommand → FirstCommand → FirstCommand
or_else none later = later
or_else (first line place c) later = first line place c

-- §13.4: the first in the lines of a script, from a line number on
unfoldable pub first_command_from : ℕ → List (List ℕ) → FirstCommand
first_command_from line [] = none
first_command_from line (l ∷ ls) = or_else (first_command_in line 1 (texts_of l)) (first_command_from (line + 1) ls)

-- §13.4: the first in all lines of a script
abbrev pub first_command : List (List ℕ) → FirstCommand
first_command lines = first_command_from 1 lines

-- §13.4: a command is *RST, with no argument and no question mark
unfoldable pub is_rst_command : Parsed → Bool
is_rst_command (Ok None) = false
is_rst_command (Err r) = false
is_rst_command (Ok (Some c)) = resets c.kind

-- §13.4: a script begins with *RST: the first command that is not empty is it
unfoldable pub begins_with_reset : FirstCommand → Bool
begins_with_reset none = false
begins_with_reset (first line place c) = is_rst_command c

-- ---- the verdicts

-- §13.8: in every course all lines before line n answer 0
abbrev pub PassedBefore : Model → List (List ℕ) → ℕ → Type 0
PassedBefore model lines n = (k : Course model lines) (m : ℕ) → m < n → answers k m ≡ answer.passed

-- §13.7: yes: in every course every line answers 0; with it, a module of the model can be started (§13.2), no line is
-- over 256 bytes (§13.3) and the script begins with *RST (§13.4).
pub record AllPass (model : Model) (lines : List (List ℕ)) : Type 0 where
  pub startable : Startable model
  pub begun : begins_with_reset (first_command lines) ≡ true
  pub short : (n : ℕ) → Short lines n
  pub passed : (k : Course model lines) (n : ℕ) → answers k n ≡ answer.passed

-- §13.8: no, at a command and by another number than 7: in some course, which starts from a fresh module, line n is
-- answered by this refusal at this place; whatever the course, the lines up to n pass and n has no refusal at an
-- earlier place.
pub record FirstRefused (model : Model) (lines : List (List ℕ)) (n place : ℕ) (r : Refusal) : Type 0 where
  pub witness : Course model lines
  pub fresh : witness.start ≡ fresh_world model
  pub refuses : answers witness n ≡ refused_at r place
  pub before : PassedBefore model lines n
  pub earlier : (k : Course model lines) (q : ℕ) (s : Refusal) → answers k n ≡ refused_at s q → place ≤ q

-- §12.7 and §13.4: 7: the first command that is not empty is another than *RST, and no line up to it is over 256 bytes;
-- or every command of the script is empty, which is said at line 1, place 1
pub data NotBegun (lines : List (List ℕ)) : ℕ → ℕ → Type 0 where
  other : (n place : ℕ) (c : Parsed) → first_command lines ≡ first n place c → is_rst_command c ≡ false
      → ((m : ℕ) → m ≤ n → Short lines m) → NotBegun lines n place
  nothing : first_command lines ≡ none → ((m : ℕ) → Short lines m) → NotBegun lines 1 1

-- §12.8 and §13.3: 8, at place 0: line n is over 256 bytes; a first command on an earlier line is *RST, and the earlier
-- lines pass, whatever the course
pub record LongAt (model : Model) (lines : List (List ℕ)) (n place : ℕ) : Type 0 where
  pub nowhere : place ≡ 0
  pub long : line_too_long (line_numbered lines n) ≡ true
  pub begun : (m q : ℕ) (c : Parsed) → first_command lines ≡ first m q c → m < n → is_rst_command c ≡ true
  pub before : PassedBefore model lines n

-- §13.7 and §13.8: the claim, of a model and a script
pub record Demand3 (model : Model) (script : List ℕ) : Type 0 where
  -- §13.7: yes exactly where every course passes
  pub yes : (check_of model script ≡ passes) ↔ AllPass model (lines_of script)
  -- §13.5 and §13.8: 1, 2 or 3: some course is refused there, and none sooner
  pub no : (n place : ℕ) (r : Refusal) → check_of model script ≡ objected_at n place r
      → r ≢ NoReset → r ≢ LongScriptLine → r ≢ BadTraces → FirstRefused model (lines_of script) n place r
  -- §12.7: 7 exactly where the script does not begin with *RST
  pub seven : (n place : ℕ)
      → (check_of model script ≡ objected_at n place NoReset) ↔ (Startable model × NotBegun (lines_of script) n place)
  -- §12.8: 8 exactly where a line is too long and nothing before it is refused
  pub eight : (n place : ℕ)
      → (check_of model script ≡ objected_at n place LongScriptLine)
      ↔ (Startable model × LongAt model (lines_of script) n place)
  -- §13.2: 9, at line 0 and place 0: the start refuses traces of the capacity by 9 (§12.9)
  pub nine : (n place : ℕ)
      → (check_of model script ≡ objected_at n place BadTraces)
      ↔ (StartAnswers model (Err BadTraces) × (n ≡ 0) × (place ≡ 0))
  -- §13.9: there are courses to speak of, from a fresh module
  pub course : Startable model → (k : Course model (lines_of script)) × (k.start ≡ fresh_world model)
