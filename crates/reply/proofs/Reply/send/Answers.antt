-- `reply::Reply::send` meets its contract: no byte, the text, or the points of the trace that is named. Assumes nothing.
use mathlib.Core.Path.{refl, sym}
use mathlib.Core.List.{[]}
use native.Mathlib.Omega.{arith}
use borrow.Author.Tests.{eq-eqb, ne_eqb}
use Rattle.reply_buffer.proofs.Over.{over_none}
use Rattle.reply_buffer.proofs.Sending.{all_sent}
use Rattle.reply.specs.Parts.{bytes_said}
use Rattle.reply.proofs.Reply.send.Goals.{then-trace-eq1, else-trace-eq1}
use Rattle.reply.proofs.Reply.send.Goals as goal

pub returns-in-Nothing : goal.returns-in-Nothing
unfolding bytes_said
returns-in-Nothing c =
    let room = c.args.out.now in
    rw c.in-Nothing.is (all_sent [] room room 0 refl (omega arith) (sym (over_none room)))

pub returns-in-Text : goal.returns-in-Text
unfolding bytes_said
returns-in-Text c = rw c.in-Text.is c.send.ensures

pub returns-after-trace-eq1 : goal.returns-after-trace-eq1
unfolding bytes_said
returns-after-trace-eq1 c = elim c.if-trace-eq1.branch [
  | then-trace-eq1 w ↦ rw (c.in-Points.is, eq-eqb _ _ w.if-trace-eq1.true) (rw w.points-is at c.send_points.ensures)
  | else-trace-eq1 w ↦ rw (c.in-Points.is, ne_eqb _ _ w.if-trace-eq1.false) (rw w.points-is at c.send_points.ensures)
]
