-- `point::word_bytes` meets its contract. Assumes nothing.
use Rattle.std.proofs.Common.{rules}
use Rattle.point.specs.Bytes.{little_endian, low_first}
use Rattle.point.proofs.word_bytes.Goals as goal

pub returns : goal.returns
unfolding little_endian low_first
returns c = search rules
