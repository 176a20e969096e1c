-- Every entry of the settings table is a value of some setting that has a name (§5.1).
use Rattle.std.specs.Prelude.{ℕ, ◌<◌}
use mathlib.Core.List.{Memᴰ}
use Rattle.settings.specs.Table.{entries}
use Rattle.demand2.specs.Demand2.{at_entry, Address, IsSetting}

-- §5.1: no entry of the table is left out
abbrev pub EveryEntry : Type 0
EveryEntry = (entry : ℕ) → entry < entries → (a : Address) × IsSetting a × Memᴰ (at_entry entry) a.holds
