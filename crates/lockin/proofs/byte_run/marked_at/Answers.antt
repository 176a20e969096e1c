-- `lockin::byte_run::marked_at` meets its contract. Assumes nothing.
use Rattle.lockin.proofs.NextByte.{mark_at}
use Rattle.lockin.proofs.byte_run.marked_at.Goals as goal

pub returns : goal.returns
returns c = mark_at c.args.run.now c.args.mark c.args.at c.requires
