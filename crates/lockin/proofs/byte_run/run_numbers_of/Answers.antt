-- `lockin::byte_run::run_numbers_of` meets its contract. Assumes nothing.
use Rattle.lockin.specs.Run.{run_numbers_of}
use Rattle.lockin.proofs.byte_run.run_numbers_of.Goals as goal

pub returns : goal.returns
unfolding run_numbers_of
returns c = rw c.numbers_of-numbers.ensures
