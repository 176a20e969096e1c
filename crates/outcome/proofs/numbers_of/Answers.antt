-- `outcome::numbers_of` meets its contract. Assumes nothing.
use Rattle.outcome.specs.Answer.{numbered, numbers_of}
use Rattle.outcome.proofs.numbers_of.Goals as goal

pub returns-in-Ok : goal.returns-in-Ok
unfolding numbers_of numbered
returns-in-Ok c = rw c.in-Ok.is

pub returns-in-Err : goal.returns-in-Err
unfolding numbers_of numbered
returns-in-Err c = rw (c.code_of.ensures, c.in-Err.is)
