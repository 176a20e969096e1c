-- `state::latest_valid` meets its contract. Assumes nothing.
use Rattle.std.proofs.Common.{rules}
use Rattle.state.specs.Valid.{latest_valid}
use Rattle.state.proofs.latest_valid.Goals as goal

pub returns-then-legal : goal.returns-then-legal
unfolding latest_valid
returns-then-legal c = search rules

pub returns-else-legal : goal.returns-else-legal
unfolding latest_valid
returns-else-legal c = search rules
