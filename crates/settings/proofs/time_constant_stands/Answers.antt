-- `settings::time_constant_stands` meets its contract. Assumes nothing.
use Rattle.settings.proofs.time_constant_stands.Goals as goal

pub returns : goal.returns
returns c = rw c.is_upper.ensures
