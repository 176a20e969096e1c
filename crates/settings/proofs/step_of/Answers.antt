-- `settings::step_of` meets its contract. Assumes nothing.
use Rattle.settings.proofs.step_of.Goals as goal

pub returns-then-row : goal.returns-then-row
returns-then-row c = rw c.if-row.true c.frequency_step.ensures

pub returns : goal.returns
returns c = rw c.if-row.false
