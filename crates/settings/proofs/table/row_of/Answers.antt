-- `settings::table::row_of` meets its contract: each arm gives the table's row at its entry. Assumes nothing.
use Prim.Native.Nat.{ℕ, zero, suc, ◌≤◌, zero-le}
use mathlib.Core.Path.{◌≡◌, sym, ◌∙◌}
use native.Mathlib.Omega.{arith}
use lib.ListN.{get_or-eq_default}
use Rattle.settings.specs.Table.{entries, table, row_of, no_row}
use Rattle.settings.specs.declared.Row.{Row}
use Rattle.settings.proofs.table.row_of.Goals as goal

-- an arm's row, at the arm's entry
at : {r : Row} {entry k : ℕ} → entry ≡ k → r ≡ row_of k → r ≡ row_of entry
at key row = rw key row

-- what holds in the last arm: the entry is none of the first n
abbrev Others : ℕ → ℕ → Type 0
Others entry zero = Unit
Others entry (suc n) = Others entry n × (entry ≡ n → ⊥)

above_others : (entry n : ℕ) → Others entry n → n ≤ entry
above_others entry zero others = zero-le
above_others entry (suc n) others = let h = above_others entry n others.0 in omega (arith, others.1)

-- the row past the table
past : {r : Row} (entry : ℕ) → r ≡ no_row → Others entry entries → r ≡ row_of entry
unfolding row_of table
past entry row others = row ∙ sym (get_or-eq_default table no_row (above_others entry entries others))

pub returns-in-0 : goal.returns-in-0
unfolding row_of table
returns-in-0 c = at c.in-0.is c.phase.ensures

pub returns-in-1 : goal.returns-in-1
unfolding row_of table
returns-in-1 c = at c.in-1.is c.whole.ensures

pub returns-in-2 : goal.returns-in-2
unfolding row_of table
returns-in-2 c = at c.in-2.is c.frequency.ensures

pub returns-in-3 : goal.returns-in-3
unfolding row_of table
returns-in-3 c = at c.in-3.is c.whole-in-3.ensures

pub returns-in-4 : goal.returns-in-4
unfolding row_of table
returns-in-4 c = at c.in-4.is c.whole-in-4.ensures

pub returns-in-5 : goal.returns-in-5
unfolding row_of table
returns-in-5 c = at c.in-5.is c.plain.ensures

pub returns-in-6 : goal.returns-in-6
unfolding row_of table
returns-in-6 c = at c.in-6.is c.whole-in-6.ensures

pub returns-in-7 : goal.returns-in-7
unfolding row_of table
returns-in-7 c = at c.in-7.is c.whole-in-7.ensures

pub returns-in-8 : goal.returns-in-8
unfolding row_of table
returns-in-8 c = at c.in-8.is c.whole-in-8.ensures

pub returns-in-9 : goal.returns-in-9
unfolding row_of table
returns-in-9 c = at c.in-9.is c.whole-in-9.ensures

pub returns-in-10 : goal.returns-in-10
unfolding row_of table
returns-in-10 c = at c.in-10.is c.whole-in-10.ensures

pub returns-in-11 : goal.returns-in-11
unfolding row_of table
returns-in-11 c = at c.in-11.is c.whole-in-11.ensures

pub returns-in-12 : goal.returns-in-12
unfolding row_of table
returns-in-12 c = at c.in-12.is c.whole-in-12.ensures

pub returns-in-13 : goal.returns-in-13
unfolding row_of table
returns-in-13 c = at c.in-13.is c.whole-in-13.ensures

pub returns-in-14 : goal.returns-in-14
unfolding row_of table
returns-in-14 c = at c.in-14.is c.whole-in-14.ensures

pub returns-in-15 : goal.returns-in-15
unfolding row_of table
returns-in-15 c = at c.in-15.is c.whole-in-15.ensures

pub returns-in-16 : goal.returns-in-16
unfolding row_of table
returns-in-16 c = at c.in-16.is c.whole-in-16.ensures

pub returns-in-17 : goal.returns-in-17
unfolding row_of table
returns-in-17 c = at c.in-17.is c.whole-in-17.ensures

pub returns-in-18 : goal.returns-in-18
unfolding row_of table
returns-in-18 c = at c.in-18.is c.whole-in-18.ensures

pub returns-in-19 : goal.returns-in-19
unfolding row_of table
returns-in-19 c = at c.in-19.is c.whole-in-19.ensures

pub returns-in-20 : goal.returns-in-20
unfolding row_of table
returns-in-20 c = at c.in-20.is c.whole-in-20.ensures

pub returns-in-21 : goal.returns-in-21
unfolding row_of table
returns-in-21 c = at c.in-21.is c.signed.ensures

pub returns-in-22 : goal.returns-in-22
unfolding row_of table
returns-in-22 c = at c.in-22.is c.whole-in-22.ensures

pub returns-in-23 : goal.returns-in-23
unfolding row_of table
returns-in-23 c = at c.in-23.is c.signed-in-23.ensures

pub returns-in-24 : goal.returns-in-24
unfolding row_of table
returns-in-24 c = at c.in-24.is c.whole-in-24.ensures

pub returns-in-25 : goal.returns-in-25
unfolding row_of table
returns-in-25 c = at c.in-25.is c.signed-in-25.ensures

pub returns-in-26 : goal.returns-in-26
unfolding row_of table
returns-in-26 c = at c.in-26.is c.whole-in-26.ensures

pub returns-in-27 : goal.returns-in-27
unfolding row_of table
returns-in-27 c = at c.in-27.is c.signed-in-27.ensures

pub returns-in-28 : goal.returns-in-28
unfolding row_of table
returns-in-28 c = at c.in-28.is c.signed-in-28.ensures

pub returns-in-29 : goal.returns-in-29
unfolding row_of table
returns-in-29 c = at c.in-29.is c.signed-in-29.ensures

pub returns-in-30 : goal.returns-in-30
unfolding row_of table
returns-in-30 c = at c.in-30.is c.signed-in-30.ensures

pub returns-in-31 : goal.returns-in-31
unfolding row_of table
returns-in-31 c = at c.in-31.is c.whole-in-31.ensures

pub returns-in-32 : goal.returns-in-32
unfolding row_of table
returns-in-32 c = at c.in-32.is c.whole-in-32.ensures

pub returns-in-33 : goal.returns-in-33
unfolding row_of table
returns-in-33 c = at c.in-33.is c.whole-in-33.ensures

pub returns-in_default : goal.returns-in_default
unfolding row_of table
returns-in_default c = past c.args.entry c.whole-in_default.ensures c.in_default.in_default-own.rest
