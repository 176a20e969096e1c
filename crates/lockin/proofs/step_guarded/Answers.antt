-- `lockin::step_guarded` meets its contract: by whether it is refused. Assumes nothing.
use Rattle.lockin.specs.Parts.{GuardedStep}
use Rattle.lockin.proofs.step_guarded.Goals as goal

pub returns-in-Ok : goal.returns-in-Ok
unfolding GuardedStep
returns-in-Ok c = rw c.in-Ok.is c.step_of.ensures

pub returns-in-Err : goal.returns-in-Err
unfolding GuardedStep
returns-in-Err c = rw c.in-Err.is
