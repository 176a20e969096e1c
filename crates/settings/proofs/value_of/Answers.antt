-- `settings::value_of` meets its contract. Assumes nothing.
use mathlib.Core.Path.{◌≡◌, sym}
use native.Mathlib.Omega.{arith}
use borrow.Author.Rules.{rules}
use lib.ListN.{length, get_or-eq_default}
use Rattle.settings.specs.Table.{entries}
use Rattle.settings.proofs.value_of.Goals as goal

pub returns-else-entry-lt-ENTRIES : goal.returns-else-entry-lt-ENTRIES
returns-else-entry-lt-ENTRIES c =
    let v = c.args.s.values in
    let h : length v ≡ entries = search rules in
    sym (get_or-eq_default v 0 (omega arith))
