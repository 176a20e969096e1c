-- `settings::take_value` meets its contract. Assumes nothing.
use borrow.Author.Rules.{rules}
use Rattle.settings.specs.Setting.{turned_at}
use Rattle.settings.specs.Parts.{value_taken}
use Rattle.settings.proofs.take_value.Goals as goal

pub returns : goal.returns
unfolding value_taken turned_at
returns c = rw (← c.row_of-row.ensures, ← c.range_of-range.ensures, ← c.take.ensures) (search rules)
