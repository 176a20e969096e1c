-- `outcome::number_of` meets its contract. Assumes nothing.
use borrow.Author.Rules.{rules}
use Rattle.outcome.specs.Code.{number_of}
use Rattle.outcome.proofs.number_of.Goals as goal

pub returns-in-Ok : goal.returns-in-Ok
unfolding number_of
returns-in-Ok c = search rules

pub returns-in-Err : goal.returns-in-Err
unfolding number_of
returns-in-Err c = search rules
