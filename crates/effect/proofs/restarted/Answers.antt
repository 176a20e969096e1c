-- `effect::restarted` meets its contract. Assumes nothing.
use mathlib.Core.Path.{sym, ◌∙◌}
use Rattle.effect.specs.Effect.{restarted_by}
use Rattle.effect.proofs.restarted.Goals as goal

pub returns-then-is_rst : goal.returns-then-is_rst
unfolding restarted_by
returns-then-is_rst c = simp (c.start.ensures, sym c.is_rst.ensures ∙ c.if-is_rst.true)

pub returns : goal.returns
unfolding restarted_by
returns c = simp (sym c.is_rst.ensures ∙ c.if-is_rst.false)
