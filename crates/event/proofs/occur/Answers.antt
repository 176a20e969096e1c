-- `event::occur` meets its contract. Assumes nothing.
use mathlib.Core.List.{[]}
use Rattle.reply_buffer.proofs.After.{silent-meets}
use Rattle.event.specs.Event.{event_effect, event_of}
use Rattle.event.proofs.occur.Goals as goal

pub returns-in-Latest : goal.returns-in-Latest
unfolding event_of
returns-in-Latest c = rw (c.in-Latest.is, c.new_pair.ensures) (silent-meets event_effect _ _ _ _ [])

pub returns-in-Tick : goal.returns-in-Tick
unfolding event_of
returns-in-Tick c = rw (c.in-Tick.is, ← c.tick_of.ensures) c.sample.ensures

pub returns-in-Trigger : goal.returns-in-Trigger
unfolding event_of
returns-in-Trigger c = rw (c.in-Trigger.is, ← c.trigger_of.ensures) c.sample-in-Trigger.ensures

pub returns-in-Measured : goal.returns-in-Measured
unfolding event_of
returns-in-Measured c = rw (c.in-Measured.is, c.measured.ensures) (silent-meets event_effect _ _ _ _ [])

pub returns-in-Raised : goal.returns-in-Raised
unfolding event_of
returns-in-Raised c = rw (c.in-Raised.is, c.raised.ensures) (silent-meets event_effect _ _ _ _ [])
