-- `reply::reply_to` meets its contract: nothing for a command that is no query, points for a trace read, a text for
-- every other query. Assumes nothing.
use mathlib.Core.Path.{sym, ◌∙◌}
use Rattle.reply.specs.Reply.{trace_reply, query_reply, reply_of}
use Rattle.reply.specs.Parts.{bytes_said}
use Rattle.reply.proofs.Sends.{none_replied, text_replied}
use Rattle.reply.proofs.reply_to.Goals as goal

pub returns-in_default : goal.returns-in_default
unfolding bytes_said
returns-in_default c one two =
    let a = c.args in
    sym (none_replied a.kind a.s a.waiting one two c.in_default.not-Query)

pub returns-in-Trace : goal.returns-in-Trace
unfolding bytes_said reply_of query_reply trace_reply
returns-in-Trace c one two = rw (c.in-Query.is, c.in-Trace.is, c.point_index.ensures)

pub returns-in_default-q : goal.returns-in_default-q
unfolding bytes_said reply_of
returns-in_default-q c one two =
    let a = c.args in
    rw c.in-Query.is
    (c.terminated_text.ensures ∙ sym (text_replied c.in-Query.q a.s a.waiting one two c.in_default-q.not-Trace))
