-- `outcome::first_of` meets its contract. Assumes nothing.
use borrow.Author.Rules.{rules}
use Rattle.outcome.specs.Answer.{first_of}
use Rattle.outcome.proofs.first_of.Goals as goal

pub returns-in_err-answer : goal.returns-in_err-answer
unfolding first_of
returns-in_err-answer c = search rules

pub returns : goal.returns
unfolding first_of
returns c = search rules
