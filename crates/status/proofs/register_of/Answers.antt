-- `status::register_of` meets its contract: case by case. Assumes nothing.
use Rattle.status.specs.Status.{register_of}
use Rattle.status.proofs.register_of.Goals as goal

pub returns-in-Standard : goal.returns-in-Standard
unfolding register_of
returns-in-Standard c = rw c.in-Standard.is

pub returns-in-Service : goal.returns-in-Service
unfolding register_of
returns-in-Service c = rw c.in-Service.is

pub returns-in-Lia : goal.returns-in-Lia
unfolding register_of
returns-in-Lia c = rw c.in-Lia.is

pub returns-in-Errors : goal.returns-in-Errors
unfolding register_of
returns-in-Errors c = rw c.in-Errors.is
