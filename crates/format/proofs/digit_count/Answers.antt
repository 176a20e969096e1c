-- `format::digit_count` meets its contract: one more than the highest power of ten that is not above the value. Assumes
-- nothing.
use Rattle.format.proofs.Digits.{places_by_power}
use Rattle.format.proofs.digit_count.Goals as goal

pub returns : goal.returns
returns c = places_by_power c.args.value c.max.result c.ilog10.result c.max.ensures c.ilog10.ensures.power_le c.ilog10.ensures.next_power_gt
