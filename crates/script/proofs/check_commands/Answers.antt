-- `script::check_commands` meets its contract: what is left of the line answers what the whole does. Assumes nothing.
use mathlib.Core.List.{◌∷◌}
use mathlib.Core.Path.{◌≡◌, sym, ap, ◌∙◌}
use native.Mathlib.Omega.{arith}
use lib.ListN.{length}
use borrow.Author.Rules.{rules}
use borrow.Author.Tests.{tests}
use Rattle.line_text.specs.Texts.{semicolon}
use Rattle.split.proofs.Iterated.{left, left_all, left_none, left_some}
use Rattle.split.proofs.Counted.{parts-length}
use Rattle.script.proofs.LoopStep.{at_start, ended, refused, again}
use Rattle.script.proofs.check_commands.Goals as goal
use Rattle.script.proofs.check_commands.Goals.{In-Some}

pub loop-part-init : goal.loop-part-init
loop-part-init c =
    let split = c.split-part-items in
    let all = left_all semicolon split.result c.args.text.now split.ensures.rest split.ensures.done in
    at_start c.args.model _ _ c.args.b (ap (left semicolon) c.into_iter-part-iterator.ensures.into_iter_gives ∙ all)

-- the part is the first of those left
one_more : (c : In-Some) →
    left semicolon c.loop-part.part-iterator ≡ c.in-Some.part.now ∷ left semicolon c.next.new.self
one_more c =
    left_some semicolon c.loop-part.part-iterator c.next.new.self c.in-Some.part c.in-Some.ensures.steps
    (λ b r q k. search (rules, tests))

pub returns-in-Err : goal.returns-in-Err
returns-in-Err c =
    let more = one_more (goal.at.returns-in-Err c).In-Some in
    refused c.loop-part.invariant _ _ more _ c.parse-p.ensures _ (sym c.text_refusal.ensures ∙ c.in-Err.is)

pub overflow_add-place : goal.overflow_add-place
overflow_add-place c =
    let more = one_more (goal.at.overflow_add-place c).In-Some in
    let counted = c.loop-part.invariant.counted in
    omega (arith, ap length more, parts-length semicolon c.args.text.now, c.requires)

pub loop-part-preserved : goal.loop-part-preserved
loop-part-preserved c =
    let more = one_more (goal.at.loop-part-preserved c).In-Some in
    rw c.text_after-extremes.ensures
    (again c.loop-part.invariant _ _ more _ c.parse-p.ensures (sym c.text_refusal.ensures ∙ c.in_default.is))

pub returns : goal.returns
returns c = ended c.loop-part.invariant (left_none semicolon c.loop-part.part-iterator c.in-None.ensures.steps.0)
