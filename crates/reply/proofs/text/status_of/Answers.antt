-- `reply::status_of` meets its contract: an arm for each register. Assumes nothing.
use Rattle.reply.specs.Text.{status_of}
use Rattle.reply.proofs.text.status_of.Goals as goal

pub returns-in-Standard : goal.returns-in-Standard
unfolding status_of
returns-in-Standard c = rw (c.register_of.ensures, c.in-Standard.is)

pub returns-in-Service : goal.returns-in-Service
unfolding status_of
returns-in-Service c = rw (c.status_now.ensures, c.in-Service.is)

pub returns-in-Lia : goal.returns-in-Lia
unfolding status_of
returns-in-Lia c = rw (c.register_of-in-Lia.ensures, c.in-Lia.is)

pub returns-in-Errors : goal.returns-in-Errors
unfolding status_of
returns-in-Errors c = rw (c.register_of-in-Errors.ensures, c.in-Errors.is)
