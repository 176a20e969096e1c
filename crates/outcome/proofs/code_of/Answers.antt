-- `outcome::code_of` meets its contract, row by row. Assumes nothing.
use Rattle.outcome.proofs.code_of.Goals as goal

pub returns-in-Malformed : goal.returns-in-Malformed
returns-in-Malformed c = rw c.in-Malformed.is

pub returns-in-OutOfRange : goal.returns-in-OutOfRange
returns-in-OutOfRange c = rw c.in-OutOfRange.is

pub returns-in-NotAllowed : goal.returns-in-NotAllowed
returns-in-NotAllowed c = rw c.in-NotAllowed.is

pub returns-in-NoRoom : goal.returns-in-NoRoom
returns-in-NoRoom c = rw c.in-NoRoom.is

pub returns-in-LongLine : goal.returns-in-LongLine
returns-in-LongLine c = rw c.in-LongLine.is

pub returns-in-BadEvent : goal.returns-in-BadEvent
returns-in-BadEvent c = rw c.in-BadEvent.is

pub returns-in-NoReset : goal.returns-in-NoReset
returns-in-NoReset c = rw c.in-NoReset.is

pub returns-in-LongScriptLine : goal.returns-in-LongScriptLine
returns-in-LongScriptLine c = rw c.in-LongScriptLine.is

pub returns-in-BadTraces : goal.returns-in-BadTraces
returns-in-BadTraces c = rw c.in-BadTraces.is

pub returns-in-BadStart : goal.returns-in-BadStart
returns-in-BadStart c = rw c.in-BadStart.is

pub returns-in-BadState : goal.returns-in-BadState
returns-in-BadState c = rw c.in-BadState.is
