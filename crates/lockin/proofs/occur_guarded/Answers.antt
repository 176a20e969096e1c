-- `lockin::occur_guarded` meets its contract: by whether it is refused. Assumes nothing.
use mathlib.Core.List.{[]}
use Rattle.reply_buffer.proofs.After.{silent-meets}
use Rattle.event.specs.Event.{event_effect}
use Rattle.lockin.specs.Calls.{guarded}
use Rattle.lockin.proofs.occur_guarded.Goals as goal

pub returns-in-Ok : goal.returns-in-Ok
unfolding guarded
returns-in-Ok c = rw c.in-Ok.is c.occur.ensures

pub returns-in-Err : goal.returns-in-Err
unfolding guarded
returns-in-Err c = rw c.in-Err.is (silent-meets event_effect _ _ _ _ [])
