-- `reply::status_now` meets its contract: storage is read, no command is idle. Assumes nothing.
use Rattle.reply.specs.Text.{status_now}
use Rattle.reply.proofs.text.status_now.Goals as goal

pub returns : goal.returns
unfolding status_now
returns c = rw (c.status_byte.ensures, c.at_rest.ensures)
