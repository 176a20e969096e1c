-- `format::push_plain` meets its contract: the last digits of the value, as many as it has. Assumes nothing.
use mathlib.Core.Path.{◌∙◌}
use Rattle.format.specs.Text.{plain}
use Rattle.format.proofs.push_plain.Goals as goal

pub returns : goal.returns
unfolding plain
returns c = c.push_padded.ensures ∙ rw c.digit_count.ensures
