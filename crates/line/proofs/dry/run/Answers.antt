-- `line::dry::run` meets its contract: what is left of the line comes to what the whole comes to. Assumes nothing.
use mathlib.Core.List.{[], ◌∷◌}
use mathlib.Core.Path.{◌≡◌, sym, ap, ◌∙◌}
use native.Mathlib.Omega.{arith}
use lib.ListN.{length}
use borrow.Author.Rules.{rules}
use borrow.Author.Tests.{tests, eqb-true}
use Rattle.std.proofs.lemmas.List.{nil_from_length}
use Rattle.outcome.specs.Answer.{drops}
use Rattle.line_text.specs.Texts.{semicolon}
use Rattle.split.proofs.Counted.{parts-length}
use Rattle.split.proofs.Iterated.{left, left_all, left_none, left_some}
use Rattle.line.proofs.DryPass.{dry_start, dry_ended, dry_stopped, dry_again, dry-empty}
use Rattle.line.proofs.dry.run.Goals as goal
use Rattle.line.proofs.dry.run.Goals.{In-Some}

pub loop-part-init : goal.loop-part-init
loop-part-init c =
    let split = c.split-part-items in
    let all = left_all semicolon split.result c.args.text.now split.ensures.rest split.ensures.done in
    dry_start _ _ c.args.room c.args.s _ c.start-p.ensures
    (ap (left semicolon) c.into_iter-part-iterator.ensures.into_iter_gives ∙ all)

-- the part is the first of those left
one_more : (c : In-Some) →
    left semicolon c.loop-part.part-iterator ≡ c.in-Some.part.now ∷ left semicolon c.next.new.self
one_more c =
    left_some semicolon c.loop-part.part-iterator c.next.new.self c.in-Some.part c.in-Some.ensures.steps
    (λ b r q k. search (rules, tests))

pub passed_over-p-requires : goal.passed_over-p-requires
passed_over-p-requires c =
    let more = one_more (goal.at.passed_over-p-requires c).In-Some in
    omega (arith, ap length more, c.loop-part.invariant.counted, parts-length semicolon c.args.text.now, c.requires)

pub loop-part-preserved-then-is_empty : goal.loop-part-preserved-then-is_empty
unfolding drops
loop-part-preserved-then-is_empty c =
    let more = one_more (goal.at.loop-part-preserved-then-is_empty c).In-Some in
    let part = c.in-Some.part.now in
    let none : part ≡ [] = nil_from_length part (eqb-true (length part) 0 (sym c.is_empty.ensures ∙ c.if-is_empty.true)) in
    let after = c.passed_over-p.ensures in
    let v = c.loop-part.invariant in
    dry_again v part _ more _ (rw none (dry-empty _ _ _ after)) (ap (λ r. r.dropped) (after [] []))
    (omega (arith, ap (λ r. r.at) (after [] []), v.fits)) (ap (λ r. r.count) (after [] []))

pub step-p-requires : goal.step-p-requires
step-p-requires c =
    let more = one_more (goal.at.step-p-requires c).In-Some in
    let v = c.loop-part.invariant in
    (v.fits, omega (arith, ap length more, v.counted, parts-length semicolon c.args.text.now, c.requires))

pub returns-then-p : goal.returns-then-p
returns-then-p c =
    let more = one_more (goal.at.returns-then-p c).In-Some in
    dry_stopped c.loop-part.invariant _ _ more _ c.step-p.ensures.value c.if-p.true

pub loop-part-preserved : goal.loop-part-preserved
loop-part-preserved c =
    let more = one_more (goal.at.loop-part-preserved c).In-Some in
    dry_again c.loop-part.invariant _ _ more _ c.step-p.ensures.value c.if-p.false
    c.step-p.ensures.at_in_bounds.0 c.step-p.ensures.at_in_bounds.1

pub returns : goal.returns
returns c = dry_ended c.loop-part.invariant (left_none semicolon c.loop-part.part-iterator c.in-None.ensures.steps.0)
