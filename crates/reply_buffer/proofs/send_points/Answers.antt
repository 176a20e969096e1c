-- `reply_buffer::send_points` meets its contract: points that fit are written from the slot of their place on, any
-- others leave the room as it was. Assumes nothing.
use native.Mathlib.Omega.{arith}
use Rattle.reply_buffer.specs.Buffer.{point_bytes}
use Rattle.reply_buffer.proofs.Over.{point_bytes-length}
use Rattle.reply_buffer.proofs.Sending.{not-sent, points-sent}
use Rattle.reply_buffer.proofs.send_points.Goals as goal

pub returns-then-out-points : goal.returns-then-out-points
returns-then-out-points c =
    let a = c.args in
    not-sent (point_bytes a.form a.trace.now a.place a.count) a.out.now
    (rw point_bytes-length (omega arith))

pub put_points-requires : goal.put_points-requires
put_points-requires c = (omega (arith, c.well_formed.0.1), omega arith)

pub returns : goal.returns
returns c =
    let a = c.args in
    points-sent a.form a.trace.now a.place a.count c.slot_of-first.result a.out.now
    c.put_points.new.out c.slot_of-first.ensures.value (omega arith) c.put_points.ensures
