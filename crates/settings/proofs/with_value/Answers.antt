-- `settings::with_value` meets its contract. Assumes nothing.
use mathlib.Core.Path.{◌≡◌}
use native.Mathlib.Omega.{arith}
use borrow.Author.Rules.{rules}
use lib.ListN.{length}
use lib.Seq.{set_out}
use Rattle.settings.specs.Table.{entries}
use Rattle.settings.proofs.with_value.Goals as goal

pub returns-else-entry-lt-ENTRIES : goal.returns-else-entry-lt-ENTRIES
returns-else-entry-lt-ENTRIES c =
    let v = c.args.s.values in
    let h : length v ≡ entries = search rules in
    rw (set_out v c.args.entry c.args.value (omega arith))
