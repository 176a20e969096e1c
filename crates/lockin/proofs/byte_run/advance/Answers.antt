-- `lockin::byte_run::advance` meets its contract. Assumes nothing.
use Rattle.lockin.proofs.byte_run.advance.Goals as goal

pub returns : goal.returns
returns c = rw (c.first_answer.ensures, c.first_line.ensures)
