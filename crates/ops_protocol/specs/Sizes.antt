-- What an operation carries is no larger than what holds it.
use Rattle.std.specs.Prelude.{ℕ, ◌≤◌, length}
use Rattle.ops_protocol.specs.declared.sizes.TheConstants.{REPLY_MOST, TRACE_MOST}
use Rattle.ops_protocol.specs.declared.operation.Operation.{Operation}
use Rattle.ops_protocol.specs.declared.operation.Operation.TheVariants.{Start, Line, Byte, Run, Check}

-- the bytes fit the buffer lent for them, a reply the largest reply buffer, and the traces the room for them
abbrev pub FitsRoom : ℕ → Operation → Type 0
FitsRoom room (Start serial port one two) = (one ≤ TRACE_MOST) × (two ≤ TRACE_MOST)
FitsRoom room (Line text reply) = (length text.now ≤ room) × (reply ≤ REPLY_MOST)
FitsRoom room (Byte b mark reply) = reply ≤ REPLY_MOST
FitsRoom room (Run part mark reply) = (length part.now ≤ room) × (reply ≤ REPLY_MOST)
FitsRoom room (Check capacity script) = length script.now ≤ room
FitsRoom room _ = Unit {0}
