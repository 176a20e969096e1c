-- `line::run` meets its contract: what is left of the line does what the whole does. Assumes nothing.
use mathlib.Core.List.{[], ◌∷◌}
use mathlib.Core.Path.{◌≡◌, refl, sym, ap, ◌∙◌}
use native.Mathlib.Omega.{arith}
use lib.ListN.{length}
use borrow.Author.Rules.{rules}
use borrow.Author.Tests.{tests, eqb-true}
use Rattle.std.proofs.lemmas.List.{nil_from_length}
use Rattle.outcome.specs.Answer.{drops}
use Rattle.line_text.specs.Texts.{semicolon}
use Rattle.split.proofs.Counted.{parts-length}
use Rattle.split.proofs.Iterated.{left, left_all, left_none, left_some}
use Rattle.line.proofs.Steps.{empty-holds}
use Rattle.line.proofs.LoopStep.{at_start, ended, stopped, again}
use Rattle.line.proofs.run.Goals as goal
use Rattle.line.proofs.run.Goals.{In-Some}

pub loop-part-init : goal.loop-part-init
loop-part-init c =
    let a = c.args in
    let split = c.split-part-items in
    let all = left_all semicolon split.result a.text.now split.ensures.rest split.ensures.done in
    at_start _ _ a.s a.one.now a.two.now a.reply.now _ (c.start-p.ensures a.one.now a.two.now)
    (ap (left semicolon) c.into_iter-part-iterator.ensures.into_iter_gives ∙ all)

-- the part is the first of those left
one_more : (c : In-Some) →
    left semicolon c.loop-part.part-iterator ≡ c.in-Some.part.now ∷ left semicolon c.next.new.self
one_more c =
    left_some semicolon c.loop-part.part-iterator c.next.new.self c.in-Some.part c.in-Some.ensures.steps
    (λ b r q k. search (rules, tests))

pub passed_over-p-requires : goal.passed_over-p-requires
passed_over-p-requires c =
    let more = one_more (goal.at.passed_over-p-requires c).In-Some in
    omega (arith, ap length more, c.loop-part.invariant.counted, parts-length semicolon c.args.text.now, c.requires)

pub loop-part-preserved-then-is_empty : goal.loop-part-preserved-then-is_empty
unfolding drops
loop-part-preserved-then-is_empty c =
    let more = one_more (goal.at.loop-part-preserved-then-is_empty c).In-Some in
    let part = c.in-Some.part.now in
    let none : part ≡ [] = nil_from_length part (eqb-true (length part) 0 (sym c.is_empty.ensures ∙ c.if-is_empty.true)) in
    let after = c.passed_over-p.ensures in
    let v = c.loop-part.invariant in
    let here = ap (λ r. r.at) (after [] []) in
    again v part _ more _ _ _ _ (rw none (empty-holds _ _ _ _ _ v.fits after)) (omega arith) (omega (arith, v.fits))
    (ap (λ r. r.dropped) (after [] [])) refl refl refl (ap (λ r. r.count) (after [] []))

pub step-p-requires : goal.step-p-requires
step-p-requires c =
    let more = one_more (goal.at.step-p-requires c).In-Some in
    let v = c.loop-part.invariant in
    (v.fits, omega (arith, ap length more, v.counted, parts-length semicolon c.args.text.now, c.requires))

pub returns-then-p : goal.returns-then-p
returns-then-p c =
    let more = one_more (goal.at.returns-then-p c).In-Some in
    stopped c.loop-part.invariant _ _ more c.step-p.result c.step-p.new.one c.step-p.new.two c.step-p.new.reply
    c.step-p.ensures.meets c.step-p.ensures.at_in_bounds.0 c.step-p.ensures.at_in_bounds.1 c.if-p.true

pub loop-part-preserved : goal.loop-part-preserved
loop-part-preserved c =
    let more = one_more (goal.at.loop-part-preserved c).In-Some in
    again c.loop-part.invariant _ _ more c.step-p.result c.step-p.new.one c.step-p.new.two c.step-p.new.reply
    c.step-p.ensures.meets c.step-p.ensures.at_in_bounds.0 c.step-p.ensures.at_in_bounds.1 c.if-p.false
    c.step-p.auto.reply c.step-p.auto.one c.step-p.auto.two c.step-p.ensures.at_in_bounds.2

pub returns : goal.returns
returns c = ended c.loop-part.invariant (left_none semicolon c.loop-part.part-iterator c.in-None.ensures.steps.0)
