-- `state::is_valid` meets its contract. Assumes nothing.
use Rattle.std.proofs.Common.{rules}
use Rattle.state.specs.Valid.{valid_state}
use Rattle.state.proofs.is_valid.Goals as goal

pub returns-then-latest_valid : goal.returns-then-latest_valid
unfolding valid_state
returns-then-latest_valid c = search rules

pub returns-else-latest_valid : goal.returns-else-latest_valid
unfolding valid_state
returns-else-latest_valid c = search rules
