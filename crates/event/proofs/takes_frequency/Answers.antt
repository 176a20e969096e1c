-- `event::takes_frequency` meets its contract: a product of two numbers of 32 bits fits 64. Assumes nothing.
use Rattle.event.specs.Event.{takes_frequency}
use mathlib.Core.Path.{sym, ◌∙◌}
use Rattle.settings.proofs.Numbers.{product_below}
use borrow.Author.Rules.{rules}
use Rattle.event.proofs.takes_frequency.Goals as goal

pub overflow_mul-harmonic : goal.overflow_mul-harmonic
overflow_mul-harmonic c = record { fits = product_below 32 (search rules) (search rules) }

pub returns-then-frequency_in_range : goal.returns-then-frequency_in_range
unfolding takes_frequency
returns-then-frequency_in_range c =
    simp (
      c.within_limit.ensures,
      c.value_of-harmonic.ensures,
      sym c.frequency_in_range.ensures ∙ c.if-frequency_in_range.true,
    )

pub returns-else-frequency_in_range : goal.returns-else-frequency_in_range
unfolding takes_frequency
returns-else-frequency_in_range c = search rules
