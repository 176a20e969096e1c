-- `state::with_error_bit` meets its contract. Assumes nothing.
use Rattle.state.specs.State.{with_error_bit}
use Rattle.state.proofs.with_error_bit.Goals as goal

pub returns : goal.returns
unfolding with_error_bit
returns c = rw (c.with_standard-t.ensures, c.code_of-meaning.ensures)
