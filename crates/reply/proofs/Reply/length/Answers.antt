-- `reply::Reply::length` meets its contract: the text's own bytes, four bytes a point. Assumes nothing.
use mathlib.Core.Path.{ap}
use lib.ListN.{length}
use Rattle.reply_buffer.proofs.Over.{point_bytes-length}
use Rattle.reply.specs.Parts.{bytes_said}
use Rattle.reply.proofs.Reply.length.Goals as goal

pub returns-in-Nothing : goal.returns-in-Nothing
unfolding bytes_said
returns-in-Nothing c one two = rw c.in-Nothing.is

pub returns-in-Text : goal.returns-in-Text
unfolding bytes_said
returns-in-Text c one two = rw c.in-Text.is (ap length c.as_bytes.ensures)

pub returns-in-Points : goal.returns-in-Points
unfolding bytes_said
returns-in-Points c one two = rw (c.in-Points.is, point_bytes-length)
