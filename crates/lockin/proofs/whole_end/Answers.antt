-- `lockin::whole_end` meets its contract. Assumes nothing.
use Rattle.std.proofs.Common.{rules}
use Rattle.lockin.specs.Calls.{whole_end}
use Rattle.lockin.proofs.whole_end.Goals as goal

pub returns-then-len-le-LINE : goal.returns-then-len-le-LINE
unfolding whole_end
returns-then-len-le-LINE c = search rules

pub returns-else-len-le-LINE : goal.returns-else-len-le-LINE
unfolding whole_end
returns-else-len-le-LINE c = search rules
