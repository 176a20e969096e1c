-- `bench::Bench::run_chunk` is safe and ends: what is left of the chunk becomes shorter. Assumes nothing.
use Rattle.std.proofs.Common.{length}
use Rattle.bench.proofs.Bench.run_chunk.Given as goal

abbrev pub decreases-loop-rest : goal.decreases-loop-rest
decreases-loop-rest g l = length l.rest
