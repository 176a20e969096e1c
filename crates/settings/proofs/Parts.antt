-- Every value kept is every value in its range, and the frequency and the level on their steps. Assumes nothing.
use Prim.Native.Nat.{ℕ, zero, suc, ◌+◌, ◌%◌, ◌<◌}
use mathlib.Core.Path.{◌≡◌, refl, ◌∙◌}
use mathlib.Core.Bool.{Bool, true, false, cond, ◌&&◌, ◌||◌}
use mathlib.Core.List.{List, [], ◌∷◌, map}
use native.Mathlib.Omega.{arith}
use native.Mathlib.Nat.{mod-one, le_of_suc-le-suc, not-suc-le-zero}
use native.Mathlib.Numerals.{add-one}
use lib.Dec.{leb, eqb}
use lib.ListN.{length, get_or}
use borrow.Author.Tests.{eqb-true}
use Rattle.settings.specs.Table.{entries, table, row_of, no_row, level, freq, slvl, value_of}
use Rattle.settings.specs.Frequency.{frequency_step}
use Rattle.settings.specs.Setting.{step_with, step_of}
use Rattle.settings.specs.Valid.{value_valid, every, values_valid}
use Rattle.settings.specs.declared.Row.{Row}
use Rattle.settings.specs.declared.Settings.{Settings}
use Rattle.settings.proofs.Every.{every_at, every_of, every_fails}

-- a value in its entry's range
abbrev pub in_range : ℕ → ℕ → Bool
in_range entry x = leb (row_of entry).least x && leb x (row_of entry).most

-- a value on its entry's step
abbrev on_step : Settings → ℕ → Bool
on_step s entry = eqb (value_of s entry % step_of entry (value_of s entry)) 0

-- five tests in another order
swapped : (p q r s t : Bool) → (p && q) && (r && (s && t)) ≡ (p && (r && s)) && (q && t)
swapped true true true s t = refl
swapped true true false s t = refl
swapped true false true true t = refl
swapped true false true false t = refl
swapped true false false s t = refl
swapped false q r s t = refl

-- a test of three parts, the last one apart
parts : (a b c : ℕ → Bool) (n : ℕ) → every (λ i. a i && (b i && c i)) n ≡ every (λ i. a i && b i) n && every c n
unfolding every
parts a b c zero = refl
parts a b c (suc n) = rw (parts a b c n) (swapped (every (λ i. a i && b i) n) (every c n) (a n) (b n) (c n))

-- a test that can fail at two numbers alone
module _ (test : ℕ → Bool) (n i j : ℕ) (below-i : i < n) (below-j : j < n)
    (others : (k : ℕ) → k < n → eqb k i ≡ false → eqb k j ≡ false → test k ≡ true) where
  -- the test at any number, by the tests at the two
  at : (a b : Bool) (k : ℕ) → k < n → eqb k i ≡ a → eqb k j ≡ b → test i ≡ true → test j ≡ true → test k ≡ true
  at true b k l p q t u = rw (eqb-true k i p) t
  at false true k l p q t u = rw (eqb-true k j q) u
  at false false k l p q t u = others k l p q

  -- the whole, by the tests at the two
  by : (a b : Bool) → test i ≡ a → test j ≡ b → every test n ≡ a && b
  by true true t u = every_of test n (λ k l. at (eqb k i) (eqb k j) k l refl refl t u)
  by true false t u = every_fails test n j below-j u
  by false b t u = every_fails test n i below-i t

  -- so the test of all is the test of the two
  two : every test n ≡ test i && test j
  two = by (test i) (test j) refl refl

-- every other entry has step 1
abbrev single : ℕ → Bool
single entry = eqb entry freq || (eqb entry slvl || eqb (step_with (row_of entry) 0) 1)

-- which computes
single_all : every single entries ≡ true
unfolding table row_of every
single_all = refl

-- so that any value of theirs lies on the step
single_at : (s : Settings) (entry : ℕ) → entry < entries → eqb entry freq ≡ false → eqb entry slvl ≡ false →
    on_step s entry ≡ true
unfolding step_of
single_at s entry h p q =
    by (row_of entry).scales (eqb-true _ _ (rw (p, q) at (every_at single entries single_all entry h))) where
      by : (t : Bool) → cond t 0 (row_of entry).step ≡ 1 →
          eqb (value_of s entry % cond t (frequency_step (value_of s entry)) (row_of entry).step) 0 ≡ true
      by true e = absurd (omega (arith, e))
      by false e = rw (e, mod-one (value_of s entry))

-- all steps are the frequency's and the level's
steps : (s : Settings) → every (on_step s) entries
    ≡ eqb (value_of s freq % frequency_step (value_of s freq)) 0 && eqb (value_of s slvl % level.step) 0
unfolding step_of row_of table
steps s = two (on_step s) entries freq slvl (omega arith) (omega arith) (single_at s)

-- every value kept, in the parts that the code tests
pub parts-valid : (s : Settings) → values_valid s
    ≡ every (λ e. in_range e (value_of s e)) entries
    && (eqb (value_of s freq % frequency_step (value_of s freq)) 0 && eqb (value_of s slvl % level.step) 0)
unfolding values_valid value_valid
parts-valid s =
    parts (λ e. leb (row_of e).least (value_of s e)) (λ e. leb (value_of s e) (row_of e).most) (on_step s) entries
    ∙ rw (steps s)

-- a column of the table at an entry
column : (f : Row → ℕ) (rows : List Row) (d : Row) (i : ℕ) → i < length rows → get_or (map f rows) i 0 ≡ f (get_or rows i d)
column f [] d i h = absurd (not-suc-le-zero h)
column f (r ∷ rows) d zero h = refl
column f (r ∷ rows) d (suc i) h = column f rows d i (le_of_suc-le-suc h)

-- one entry more, by the code's two columns
pub range_more : (values least most : List ℕ) → least ≡ map (λ row. row.least) table →
    most ≡ map (λ row. row.most) table → (entry : ℕ) → entry < entries →
    every (λ e. in_range e (get_or values e 0)) entry
    && (leb (get_or least entry 0) (get_or values entry 0) && leb (get_or values entry 0) (get_or most entry 0))
    ≡ every (λ e. in_range e (get_or values e 0)) (entry + 1)
unfolding table row_of every
range_more values least most p q entry h =
    let low = column (λ row. row.least) table no_row entry h in
    let high = column (λ row. row.most) table no_row entry h in
    rw (p, q, add-one entry, low, high)
