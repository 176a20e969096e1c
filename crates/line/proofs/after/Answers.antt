-- `line::after` meets its contract: by what the command's text is taken for. Assumes nothing.
use mathlib.Core.Path.{◌≡◌, ap}
use mathlib.Core.List.{[]}
use borrow.Author.Rules.{rules}
use Rattle.std.specs.Prelude.{◌+◌, false, Some, None, Ok}
use native.Mathlib.Omega.{arith}
use lib.ListN.{length}
use Rattle.outcome.specs.Answer.{drops}
use Rattle.effect.specs.Effect.{state_by}
use Rattle.reply.specs.Parts.{bytes_said}
use Rattle.line.specs.Parts.{written_by, effect_of}
use Rattle.line.proofs.Effects.{answer-stays}
use Rattle.line.proofs.after.Goals as goal

pub returns-in-Ok-None : goal.returns-in-Ok-None
unfolding effect_of
returns-in-Ok-None c one two =
    let taken : c.args.taken ≡ Ok None = search rules in
    rw taken (c.passed_over.ensures one two)

pub returns-in-Err : goal.returns-in-Err
unfolding effect_of
returns-in-Err c one two = rw c.in-Err.is (c.refused.ensures one two)

pub overflow_add-result : goal.overflow_add-result
unfolding effect_of written_by
overflow_add-result c =
    let taken : c.args.taken ≡ Ok (Some c.in-Ok-Some.plan) = search rules in
    omega (arith, rw taken at (c.requires.0 [] []), c.length.ensures [] [])

pub returns : goal.returns
unfolding effect_of written_by drops
returns c one two =
    let p = c.args.p in
    let plan = c.in-Ok-Some.plan in
    let taken : c.args.taken ≡ Ok (Some plan) = search rules in
    let said = length (bytes_said plan.reply one two) in
    rw (taken, c.state_after.ensures, c.length.ensures one two)
    (ap
    (λ a. record { state = state_by plan.kind plan.step p.state; at = p.at + said; answer = a; count = p.count + 1; dropped = false })
    (answer-stays p.answer (p.count + 1)))
