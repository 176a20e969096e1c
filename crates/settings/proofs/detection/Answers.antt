-- `settings::detection` meets its contract: a product of two numbers of 32 bits fits 64. Assumes nothing.
use borrow.Author.Rules.{rules}
use Rattle.settings.specs.Frequency.{detection_of}
use Rattle.settings.proofs.Numbers.{product_below}
use Rattle.settings.proofs.detection.Goals as goal

pub overflow_mul-result : goal.overflow_mul-result
unfolding detection_of
overflow_mul-result c = record { fits = product_below 32 (search rules) (search rules) }

pub returns : goal.returns
unfolding detection_of
returns c = rw (c.value_of-harmonic.ensures, c.in_force-frequency.ensures)
