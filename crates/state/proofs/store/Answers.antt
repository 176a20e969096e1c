-- `state::store` meets its contract. Assumes nothing.
use Rattle.std.proofs.Common.{rules}
use Rattle.state.specs.Storing.{stored_in}
use Rattle.state.proofs.store.Goals as goal

pub returns-then-p : goal.returns-then-p
unfolding stored_in
returns-then-p c = search rules

pub returns-else-p : goal.returns-else-p
unfolding stored_in
returns-else-p c = search rules
