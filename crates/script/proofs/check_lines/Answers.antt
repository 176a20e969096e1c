-- `script::check_lines` meets its contract: what is left of the script says what the whole does. Assumes nothing.
use mathlib.Core.List.{◌∷◌}
use mathlib.Core.Path.{◌≡◌, sym, ap, ◌∙◌}
use native.Mathlib.Omega.{arith}
use lib.ListN.{length}
use borrow.Author.Rules.{rules}
use borrow.Author.Tests.{tests}
use Rattle.std.proofs.Common.{Err}
use Rattle.line_text.specs.Clean.{lf}
use Rattle.split.proofs.Iterated.{left, left_all, left_none, left_some}
use Rattle.split.proofs.Counted.{parts-length}
use Rattle.script.proofs.Script.{numbered_by, at_start, over_yes, over_no, named, onward}
use Rattle.script.proofs.check_lines.Goals as goal
use Rattle.script.proofs.check_lines.Goals.{In-Some}

pub loop-text-init : goal.loop-text-init
loop-text-init c =
    let split = c.split-text-items in
    let all = left_all lf split.result c.args.script.now split.ensures.rest split.ensures.done in
    rw c.start_extremes-extremes.ensures
    (at_start c.args.model c.args.script.now _ (ap (left lf) c.into_iter-text-iterator.ensures.into_iter_gives ∙ all))

-- the line is the first of those left
one_more : (c : In-Some) → left lf c.loop-text.text-iterator ≡ c.in-Some.text.now ∷ left lf c.next.new.self
one_more c =
    left_some lf c.loop-text.text-iterator c.next.new.self c.in-Some.text c.in-Some.ensures.steps
    (λ b r q k. search (rules, tests))

pub returns-in_err-extremes : goal.returns-in_err-extremes
returns-in_err-extremes c =
    let more = one_more (goal.at.returns-in_err-extremes c).In-Some in
    let o = c.in_err-extremes.field-0.0 in
    let is : c.map_err.result ≡ numbered_by c.loop-text.line c.check_line.result = search rules in
    let gives : c.from_residual.result ≡ Err o = search rules in
    gives ∙ named c.loop-text.invariant _ _ more _ c.check_line.ensures o (sym is ∙ c.in_err-extremes.was)

pub overflow_add-line : goal.overflow_add-line
overflow_add-line c =
    let more = one_more (goal.at.overflow_add-line c).In-Some in
    let counted = c.loop-text.invariant.counted in
    omega (arith, ap length more, parts-length lf c.args.script.now)

pub loop-text-preserved : goal.loop-text-preserved
loop-text-preserved c =
    let more = one_more (goal.at.loop-text-preserved c).In-Some in
    onward c.loop-text.invariant _ _ more _ c.check_line.ensures _ (search rules)

pub returns-then-extremes : goal.returns-then-extremes
returns-then-extremes c =
    over_yes c.loop-text.invariant (left_none lf c.loop-text.text-iterator c.in-None.ensures.steps.0) c.if-extremes.true

pub returns-else-extremes : goal.returns-else-extremes
returns-else-extremes c =
    over_no c.loop-text.invariant (left_none lf c.loop-text.text-iterator c.in-None.ensures.steps.0) c.if-extremes.false
