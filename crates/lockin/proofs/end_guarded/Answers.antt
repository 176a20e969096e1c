-- `lockin::end_guarded` meets its contract: by whether it is refused. Assumes nothing.
use Rattle.reply_buffer.proofs.After.{silent-meets}
use Rattle.lockin.specs.Calls.{guarded}
use Rattle.lockin.specs.Parts.{result_of}
use Rattle.lockin.proofs.end_guarded.Goals as goal

pub returns-in-Ok : goal.returns-in-Ok
unfolding guarded
returns-in-Ok c = rw c.in-Ok.is c.end_line.ensures

pub returns-in-Err : goal.returns-in-Err
unfolding guarded
returns-in-Err c = rw (c.tell.ensures, c.in-Err.is) (silent-meets result_of _ _ _ _ _)
