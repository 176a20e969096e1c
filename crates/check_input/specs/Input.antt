-- What the check program says of its input: §14.1, §14.2 and §14.3.
use Rattle.std.specs.Prelude.{ℕ, cond, ◌&&◌, List, ltb, length}
use Rattle.split.specs.Divide.{before, after}
use Rattle.number.specs.Number.{all_digits}
use Rattle.number.specs.Value.{decimal}
use Rattle.outcome.specs.declared.Refusal.TheVariants.{LongScriptLine}
use Rattle.check_input.specs.Bytes.{line_feed}
use Rattle.settings.specs.Limits.{capacity_fits}
use Rattle.extreme_courses.specs.Model.{model_of}
use Rattle.script.specs.Check.{check_of}
use Rattle.verdict.specs.Verdict.{Verdict, objected_at}
use Rattle.check_input.specs.VerdictLine.{verdict_text}

-- §14.1: the capacity on line one, which is digits alone; any other line counts as capacity 0
unfoldable pub capacity_of : List ℕ → ℕ
capacity_of line = cond (all_digits line) (decimal line) 0

-- §14.2: the most bytes of a script that the program takes
abbrev pub script_limit : ℕ
script_limit = 60000

-- §14.2: a script past the limit is 8 at line 0, place 0, where the capacity is not refused by 9
unfoldable pub limited_check : ℕ → List ℕ → Verdict
limited_check capacity script =
    cond (ltb script_limit (length script) && capacity_fits capacity) (objected_at 0 0 LongScriptLine)
    (check_of (model_of capacity) script)

-- §14.1: the verdict on a whole input: line one is the capacity, the rest the script
unfoldable pub input_verdict : List ℕ → Verdict
input_verdict input = limited_check (capacity_of (before line_feed input)) (after line_feed input)

-- §14.3: the check program, from the bytes of its whole input to the bytes of its whole output
abbrev pub check_output : List ℕ → List ℕ
check_output input = verdict_text (input_verdict input)
