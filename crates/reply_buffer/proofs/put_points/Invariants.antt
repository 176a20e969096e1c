-- `reply_buffer::put_points` meets its contract: what is written so far, then the points that are left, is the whole.
-- Assumes nothing.
use Prim.Native.Nat.{◌+◌, ◌-◌, ◌*◌}
use mathlib.Core.Path.{◌≡◌}
use mathlib.Core.List.{◌++◌}
use lib.ListN.{length, take, drop}
use Rattle.reply_buffer.specs.Buffer.{overwrite, point_bytes}
use Rattle.reply_buffer.proofs.put_points.Given as goal

abbrev pub invariant-loop-i : goal.invariant-loop-i
invariant-loop-i l = (take (4 * l.i) l.out ++ overwrite (point_bytes l.form l.trace (l.first + l.i) (l.count - l.i))
    (drop (4 * l.i) l.out)
    ≡ overwrite (point_bytes l.form l.trace l.first l.count) l.initial.out)
    × (length l.out ≡ length l.initial.out)
