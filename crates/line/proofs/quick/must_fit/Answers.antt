-- `line::quick::must_fit` meets its contract: by the two bytes that a line may have. Assumes nothing.
use mathlib.Core.Bool.{true, false}
use mathlib.Core.Path.{◌≡◌, sym, ◌∙◌}
use Rattle.command.specs.Arguments.{question_mark, comma}
use Rattle.line.specs.Parts.{has, must_fit}
use Rattle.line.proofs.Bytes.{any_has}
use Rattle.line.proofs.quick.must_fit.Goals as goal

pub returns-then-not-asks : goal.returns-then-not-asks
unfolding must_fit
returns-then-not-asks c =
    let line = c.args.line.now in
    let asks : has question_mark line ≡ false =
    sym (c.contains-asks.ensures.value ∙ any_has question_mark line) ∙ c.if-not-asks.true in
    rw (c.if-not-asks.true, asks)

pub returns-then-not-divides : goal.returns-then-not-divides
unfolding must_fit
returns-then-not-divides c =
    let line = c.args.line.now in
    let asks : has question_mark line ≡ true =
    sym (c.contains-asks.ensures.value ∙ any_has question_mark line) ∙ c.if-not-asks.false in
    let divides : has comma line ≡ false =
    sym (c.contains-divides.ensures.value ∙ any_has comma line) ∙ c.if-not-divides.true in
    rw (asks, divides)

pub returns-else-not-divides : goal.returns-else-not-divides
unfolding must_fit
returns-else-not-divides c =
    let line = c.args.line.now in
    let asks : has question_mark line ≡ true =
    sym (c.contains-asks.ensures.value ∙ any_has question_mark line) ∙ c.if-not-asks.false in
    let divides : has comma line ≡ true =
    sym (c.contains-divides.ensures.value ∙ any_has comma line) ∙ c.if-not-divides.false in
    rw (c.if-not-divides.false, asks, divides)
