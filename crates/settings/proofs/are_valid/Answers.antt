-- `settings::are_valid` meets its contract: every test is its definition's. Assumes nothing.
use Rattle.settings.specs.Valid.{valid_settings}
use Rattle.settings.proofs.are_valid.Goals as goal

pub returns : goal.returns
unfolding valid_settings
returns c =
    rw (
      c.within_limit.ensures,
      c.frequency_in_range.ensures,
      c.values_valid.ensures,
      c.time_constant_stands.ensures,
      c.value_of.ensures,
      c.range_stands.ensures,
      c.detection-frequency.ensures,
    )
