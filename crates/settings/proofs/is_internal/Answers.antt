-- `settings::is_internal` meets its contract. Assumes nothing.
use Rattle.settings.proofs.is_internal.Goals as goal

pub returns : goal.returns
returns c = rw c.value_of.ensures
