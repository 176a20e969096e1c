-- `format::push_value` meets its contract: the sign, then how far the value is from zero. Assumes nothing.
use mathlib.Core.Path.{◌∙◌}
use Rattle.format.specs.Text.{signed_text}
use Rattle.format.proofs.Appended.{added_join}
use Rattle.format.proofs.push_value.Goals as goal

pub returns : goal.returns
unfolding signed_text
returns c = c.push_fixed.ensures ∙ rw (c.abs_diff.ensures, c.push_sign-signed.ensures, added_join)
