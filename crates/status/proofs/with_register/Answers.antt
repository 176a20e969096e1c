-- `status::with_register` meets its contract. Assumes nothing.
use Rattle.std.proofs.Common.{rules}
use Rattle.status.specs.Status.{with_register}
use Rattle.status.proofs.with_register.Goals as goal

pub returns-in-Standard : goal.returns-in-Standard
unfolding with_register
returns-in-Standard c = search rules

pub returns-in-Service : goal.returns-in-Service
unfolding with_register
returns-in-Service c = search rules

pub returns-in-Lia : goal.returns-in-Lia
unfolding with_register
returns-in-Lia c = search rules

pub returns-in-Errors : goal.returns-in-Errors
unfolding with_register
returns-in-Errors c = search rules
