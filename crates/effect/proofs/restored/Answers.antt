-- `effect::restored` meets its contract. Assumes nothing.
use mathlib.Core.Path.{sym, ◌∙◌}
use Rattle.effect.specs.Effect.{restored_by}
use Rattle.effect.proofs.restored.Goals as goal

pub returns-then-is_rst : goal.returns-then-is_rst
unfolding restored_by
returns-then-is_rst c = simp (c.start.ensures, sym c.is_rst.ensures ∙ c.if-is_rst.true)

pub returns : goal.returns
unfolding restored_by
returns c = simp (sym c.is_rst.ensures ∙ c.if-is_rst.false)
