-- `format::push_next` meets its contract: a comma, then the value. Assumes nothing.
use mathlib.Core.Path.{◌∙◌}
use Rattle.format.proofs.Appended.{added_join}
use Rattle.format.proofs.push_next.Goals as goal

pub returns : goal.returns
returns c = c.push_value.ensures ∙ rw (c.push.ensures, added_join)
