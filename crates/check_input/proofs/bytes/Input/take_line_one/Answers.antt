-- `check_input::bytes::Input::take_line_one` meets its contract. Assumes nothing.
use borrow.Author.Tests.{eq-eqb, ne_eqb}
use Rattle.check_input.specs.Bytes.{line_one_after}
use Rattle.check_input.proofs.bytes.Input.take_line_one.Goals as goal

pub returns-then-b-eq10 : goal.returns-then-b-eq10
unfolding line_one_after
returns-then-b-eq10 c = rw (eq-eqb c.args.b 10 c.if-b-eq10.true)

pub returns-else-b-eq10 : goal.returns-else-b-eq10
unfolding line_one_after
returns-else-b-eq10 c = rw (ne_eqb c.args.b 10 c.if-b-eq10.false, c.capacity_after-self.ensures)
