-- `settings::next_entry` meets its contract. Assumes nothing.
use borrow.Author.Tests.{lt-ltb, le-ltb}
use Rattle.settings.specs.Table.{next_entry}
use Rattle.settings.proofs.next_entry.Goals as goal

pub returns-then-entry-lt-ENTRIES : goal.returns-then-entry-lt-ENTRIES
unfolding next_entry
returns-then-entry-lt-ENTRIES c = rw (lt-ltb _ _ c.if-entry-lt-ENTRIES.true)

pub returns : goal.returns
unfolding next_entry
returns c = rw (le-ltb _ _ c.if-entry-lt-ENTRIES.false)
