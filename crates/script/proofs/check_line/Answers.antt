-- `script::check_line` meets its contract: the line is cleaned, then its commands are checked. Assumes nothing.
use Prim.Native.Nat.{◌≤◌}
use mathlib.Core.Path.{◌≡◌, refl, sym, ◌∙◌}
use mathlib.Core.List.{[]}
use native.Mathlib.Omega.{arith}
use lib.ListN.{length}
use borrow.Author.Tests.{lt-ltb, le-ltb, eqb-true}
use Rattle.std.proofs.lemmas.List.{nil_from_length}
use Rattle.split.specs.Divide.{parts}
use Rattle.line_text.specs.Clean.{cleaned}
use Rattle.command.specs.Parsed.{parsed_of}
use Rattle.extreme_courses.specs.Extremes.{text_refusal, text_after}
use Rattle.line_text.proofs.Bound.{all_cleaned}
use Rattle.script.specs.Check.{answer_at, texts_answer, texts_after, line_answer}
use Rattle.script.specs.Parts.{checked}
use Rattle.script.proofs.check_line.Goals as goal

pub returns-then-line-gt-LINE : goal.returns-then-line-gt-LINE
unfolding checked line_answer
returns-then-line-gt-LINE c = rw (lt-ltb 256 (length c.args.line.now) c.if-line-gt-LINE.true)

pub returns-then-is_empty : goal.returns-then-is_empty
unfolding checked line_answer texts_answer texts_after answer_at cleaned parts parsed_of text_refusal text_after
returns-then-is_empty c =
    let line = c.args.line.now in
    let none : line ≡ [] = nil_from_length line (eqb-true (length line) 0 (sym c.is_empty.ensures ∙ c.if-is_empty.true)) in
    rw (none, c.before_line-extremes.ensures) refl

pub returns : goal.returns
unfolding line_answer
returns c =
    let short : length c.args.line.now ≤ 256 = omega arith in
    let whole = c.line.ensures ∙ c.clean-c.ensures.0 ∙ all_cleaned c.args.line.now short in
    rw (le-ltb 256 (length c.args.line.now) short, sym c.before_line-extremes.ensures) (rw whole at c.check_commands.ensures)
