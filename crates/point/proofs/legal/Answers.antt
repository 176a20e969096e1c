-- `point::legal` meets its contract. Assumes nothing.
use Rattle.std.proofs.Common.{rules}
use Rattle.point.specs.Point.{is_legal}
use Rattle.point.proofs.legal.Goals as goal

pub returns-then-word-eq0 : goal.returns-then-word-eq0
unfolding is_legal
returns-then-word-eq0 c = search rules

pub returns-else-word-eq0 : goal.returns-else-word-eq0
unfolding is_legal
returns-else-word-eq0 c = search rules
