-- Demand 3, proved: the check follows two courses, low and high, and every other lies between them.
-- What holds of a course at each moment: `Low` (StorageOrder) of its storage, `Between` (Simulation) of its
-- acquisition, `Within` (EventStep) of its state, under settings that are `Alike` (SameButTimeConstant); before *RST
-- only that it is of the check's model, `Sim` (Commands). It is preserved by a storage action (StorageOrder), a command
-- (Simulation, Commands), an event and what comes before a line (EventStep), a line's commands (Commands), a line with
-- its events, and a script (Soundness): so what the check passes, every course passes.
-- What the check finds in a list of lines, by the index of a line: FirstRefusal (the first line and the others),
-- LongLines (the numbers that it gives, over-long lines), Beginning (how the script begins).
-- Where it stops, a course is refused: the low or the high course is where the check carries it, at a command (Witness)
-- and over a script (Completeness), with replies that fit (Sizes, ReplyRooms), from a module that can be started
-- (Start).
-- Demand3 puts these together: each verdict both ways; there an index becomes a line number.
pub mod SameButTimeConstant
pub mod StorageOrder
pub mod Simulation
pub mod EventStep
pub mod FirstRefusal
pub mod Start
pub mod Commands
pub mod Witness
pub mod LongLines
pub mod Soundness
pub mod Sizes
pub mod ReplyRooms
pub mod Completeness
pub mod Beginning
pub mod Demand3
