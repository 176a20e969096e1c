-- Taking by whole units is taking by the exact value: a step that goes by the value is chosen alike. Assumes nothing.
use Prim.Native.Nat.{ℕ, suc, ◌+◌, ◌*◌, ◌/◌, ◌<◌, ◌≤◌, min}
use mathlib.Core.Path.{◌≡◌, ap}
use mathlib.Core.Bool.{Bool, true, false, cond}
use native.Mathlib.Omega.{arith}
use native.Mathlib.Nat.{div-lt_iff_lt-mul}
use lib.Dec.{ltb}
use Rattle.number.specs.Value.{Exact, exact_of, argument_of}
use Rattle.number.specs.Parts.{cap, quantity_of, taken_of}
use Rattle.number.specs.Exact.{Small}
use Rattle.number.proofs.Exact.{same_test, taken_exact, under_pos}
use Rattle.settings.specs.Table.{row_of}
use Rattle.settings.specs.Limits.{hertz}
use Rattle.settings.specs.Frequency.{step_by}
use Rattle.settings.specs.Setting.{step_with, range_with, exact_step, turned_at, setting_of}
use Rattle.settings.specs.Parts.{range_of, value_taken}
use Rattle.settings.specs.Exact.{ValueExact}
use Rattle.settings.proofs.Rows.{step_by_lem, row_size}

module _ (v : Exact) (pos : 0 < v.under) where
  -- whole units are below k where the value is
  below : (k : ℕ) → k ≤ cap → ltb (min cap (v.over / v.under)) k ≡ ltb v.over (k * v.under)
  below k h =
      same_test (suc (min cap (v.over / v.under))) k (suc v.over) (k * v.under)
      (λ p. (div-lt_iff_lt-mul pos).0 (omega arith))
      (λ p. let l : v.over / v.under < k = (div-lt_iff_lt-mul pos).1 p in omega arith)

  -- the step by whole units is the step by the exact value
  step_exact : step_by (λ k. ltb (min cap (v.over / v.under)) k) ≡ exact_step v
  unfolding step_by
  step_exact =
      rw (
        below (hertz 10) (omega arith),
        below (hertz 100) (omega arith),
        below (hertz 1000) (omega arith),
        below (hertz 10000) (omega arith),
        below (hertz 100000) (omega arith),
      )

-- a row's range is small enough for the code's numbers
small : (entry own : ℕ) → own ≤ 100000 → Small (range_with (row_of entry) (step_with (row_of entry) own))
small entry own h = by (row_of entry).scales where
  by : (t : Bool) → (row_of entry).bias + (row_of entry).high + cond t own (row_of entry).step < 4294967296
  by true = omega (arith, row_size entry)
  by false = omega (arith, row_size entry)

-- what is taken by whole units is what the exact value gives
taken : (entry : ℕ) (v : Exact) → 0 < v.under →
    taken_of (range_of (row_of entry) (quantity_of v).whole) (quantity_of v)
    ≡ argument_of (range_with (row_of entry) (step_with (row_of entry) (exact_step v))) v
unfolding range_of
taken entry v pos =
    rw (step_exact v pos) (taken_exact v pos _ (small entry (exact_step v) (step_by_lem _).most))

-- what the code takes of a number's text is what the text sets
pub value_exact : ValueExact
unfolding value_taken setting_of
value_exact entry s =
    let row = row_of entry in
    ap (turned_at row.turns) (taken entry (exact_of row.decimals s) (under_pos row.decimals s))
