-- `settings::values_valid` meets its contract: it is tested in parts. Assumes nothing.
use mathlib.Core.Path.{sym}
use Rattle.settings.proofs.Parts.{parts-valid}
use Rattle.settings.proofs.values_valid.Goals as goal

pub returns : goal.returns
returns c =
    rw (
      c.in_ranges.ensures,
      c.value_of-2.ensures,
      c.on_frequency_step.ensures,
      c.value_of.ensures,
    )
    (sym (parts-valid c.args.s))
