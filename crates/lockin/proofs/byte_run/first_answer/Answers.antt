-- `lockin::byte_run::first_answer` meets its contract. Assumes nothing.
use borrow.Author.Rules.{rules}
use Rattle.lockin.specs.Run.{first_answer}
use Rattle.lockin.proofs.byte_run.first_answer.Goals as goal

pub returns : goal.returns
unfolding first_answer
returns c = search rules
