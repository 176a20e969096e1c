-- `check_input::verdict_line::VerdictLine::of` meets its contract. Assumes nothing.
use Rattle.verdict.specs.Numbers.{verdict_numbers}
use Rattle.check_input.specs.VerdictLine.{said_text}
use Rattle.check_input.proofs.verdict_line.VerdictLine.of.Goals as goal

pub returns-in-Ok : goal.returns-in-Ok
unfolding verdict_numbers said_text
returns-in-Ok c = rw c.in-Ok.is c.of_bytes.ensures.0

pub returns-in-Err : goal.returns-in-Err
unfolding verdict_numbers
returns-in-Err c = rw c.in-Err.is c.of_no.ensures
