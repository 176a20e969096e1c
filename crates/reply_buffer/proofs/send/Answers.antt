-- `reply_buffer::send` meets its contract: a text that fits is copied whole, any other leaves the room as it was.
-- Assumes nothing.
use mathlib.Core.Path.{◌≡◌, sym, ap}
use native.Mathlib.Omega.{arith}
use lib.ListN.{length}
use Rattle.format.specs.Parts.{bytes_of}
use Rattle.reply_buffer.specs.Buffer.{overwrite}
use Rattle.reply_buffer.proofs.Sending.{not-sent, all_sent}
use Rattle.reply_buffer.proofs.send.Goals as goal

pub returns-then-out-n : goal.returns-then-out-n
returns-then-out-n c =
    let a = c.args in
    not-sent (bytes_of a.t) a.out.now (rw (← c.as_bytes-bytes.ensures) c.if-out-n.true)

pub returns : goal.returns
unfolding overwrite
returns c =
    let a = c.args in
    let e : bytes_of a.t ≡ c.as_bytes-bytes.result.now = sym c.as_bytes-bytes.ensures in
    all_sent (bytes_of a.t) a.out.now _ _ (ap length e) (omega arith) (rw (e, c.copy_from_slice.ensures.after))
