-- What only inner functions are held to: the bytes of a reply that is told before it is written (§8.1, §11.3). No
-- promise of a public call speaks of these.
use Rattle.std.specs.Prelude.{ℕ, List, []}
use Rattle.format.specs.Parts.{bytes_of}
use Rattle.reply_buffer.specs.Buffer.{point_bytes}
use Rattle.reply.specs.declared.Reply.{Reply}
use Rattle.reply.specs.declared.Reply.TheVariants.{Nothing, Text, Points}
use Rattle.reply.specs.Reply.{trace_of}

-- the bytes that a reply writes, from the two traces
unfoldable pub bytes_said : Reply → List ℕ → List ℕ → List ℕ
bytes_said Nothing one two = []
bytes_said (Text t) one two = bytes_of t
bytes_said (Points trace form first count) one two = point_bytes form (trace_of trace one two) first count
