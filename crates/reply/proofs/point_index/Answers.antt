-- `reply::point_index` meets its contract: the place of bin 0 and the bin, both small. Assumes nothing.
use native.Mathlib.Omega.{arith}
use Rattle.storage.specs.Storage.{oldest_of}
use Rattle.reply.proofs.point_index.Goals as goal

pub overflow_add-result : goal.overflow_add-result
unfolding oldest_of
overflow_add-result c = omega (arith, c.oldest.ensures)
