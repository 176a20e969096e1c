-- What a byte does, case by case. Assumes nothing.
use Prim.Native.Nat.{ℕ, ◌≤◌, ◌<◌}
use mathlib.Core.Path.{◌≡◌}
use mathlib.Core.Bool.{Bool, true, false, cond}
use borrow.Author.Tests.{lt-ltb, le-ltb}
use Rattle.queue.specs.declared.Queue.{Queue}
use Rattle.queue.specs.declared.LineEnd.TheVariants.{Nothing, Line}
use Rattle.queue.specs.Queue.{line_limit, ends_line, is_marked, is_end, longer, dropped_of, too_long_of, appended_of, received_of}

-- a byte that is no line end of its own, where it fits and where it does not
module _ (q : Queue) (b : ℕ) (marked : Bool) where
  pub added_fits : q.len < line_limit → appended_of q b marked ≡ record { queue = longer q b; ending = cond marked Line Nothing }
  unfolding appended_of
  added_fits h = rw (lt-ltb q.len line_limit h)

  pub added_full : line_limit ≤ q.len → appended_of q b marked ≡ too_long_of q marked
  unfolding appended_of
  added_full h = rw (le-ltb q.len line_limit h)

module _ (q : Queue) (port b : ℕ) (mark : Bool) where
  pub received-dropped : q.discarding ≡ true → received_of q port b mark ≡ dropped_of q (is_end port b mark)
  unfolding received_of
  received-dropped d = rw d

  pub received_ends : q.discarding ≡ false → ends_line port b ≡ true → received_of q port b mark ≡ record { queue = q; ending = Line }
  unfolding received_of
  received_ends d e = rw (d, e)

  pub received_added : q.discarding ≡ false → ends_line port b ≡ false → received_of q port b mark ≡ appended_of q b (is_marked port mark)
  unfolding received_of
  received_added d e = rw (d, e)
