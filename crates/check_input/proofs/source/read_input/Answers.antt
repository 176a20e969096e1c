-- `check_input::source::read_input` meets its contract: at each turn some bytes were read, and the memory is the one
-- after them. Assumes nothing.
use mathlib.Core.Path.{refl}
use borrow.Author.Rules.{rules}
use Rattle.check_input.proofs.Pieces.{none_read, read_on}
use Rattle.check_input.proofs.source.read_input.Goals as goal

pub loop-init : goal.loop-init
loop-init g c = (search rules, refl, none_read c.start-input.ensures)

pub returns-then-n-eq0 : goal.returns-then-n-eq0
returns-then-n-eq0 g c = c.loop.invariant.2

pub loop-preserved : goal.loop-preserved
loop-preserved g c = (
  search rules,
  search rules,
  read_on c.loop.invariant.2 (record { bytes = _; stored = c.take_bytes.ensures }),
)

pub returns : goal.returns
returns g c = c.loop.invariant.2
