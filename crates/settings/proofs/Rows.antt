-- Laws on the table: a rule of its rows is one test that computes. Assumes nothing.
use Prim.Native.Nat.{ℕ, zero, suc, ◌+◌, ◌≤◌}
use mathlib.Core.Path.{◌≡◌, refl, sym, ◌∙◌}
use mathlib.Core.Bool.{Bool, true, false, true≢false, cond, ◌&&◌}
use mathlib.Core.List.{List, [], ◌∷◌}
use lib.Dec.{T, leb, ltb, leb→le}
use lib.ListN.{get_or}
use Rattle.laws.proofs.Lists.{all}
use Rattle.settings.specs.Table.{table, row_of, no_row, phase, frequency}
use Rattle.settings.specs.Limits.{hertz}
use Rattle.settings.specs.Frequency.{step_by, frequency_step}
use Rattle.settings.specs.Setting.{step_of}
use Rattle.settings.specs.declared.Row.{Row}

-- both of two tests hold: the first one
and_left : (a b : Bool) → T (a && b) → T a
and_left true b t = tt
and_left false b t = t

-- and the second
and_right : (a b : Bool) → T (a && b) → T b
and_right true b t = t
and_right false b t = absurd t

-- a test that holds of every row holds of the one at an index
all_at : (p : Row → Bool) (rs : List Row) (d : Row) → T (all p rs) → T (p d) → (i : ℕ) → T (p (get_or rs i d))
all_at p [] d t e i = e
all_at p (r ∷ rs) d t e zero = and_left (p r) (all p rs) t
all_at p (r ∷ rs) d t e (suc i) = all_at p rs d (and_right (p r) (all p rs) t) e i

-- a test that computes to true over the table, and at the row past it, holds of every entry's row
pub row_rule : (p : Row → Bool) → T (all p table) → T (p no_row) → (entry : ℕ) → T (p (row_of entry))
unfolding row_of
row_rule p t e entry = all_at p table no_row t e entry

-- A where the test holds, and B
abbrev Where : Bool → Type 0 → Type 0 → Type 0
Where true A B = A × B
Where false A B = B

-- every row that passes the test is this one
abbrev Only : (Row → Bool) → Row → List Row → Type 0
Only test row [] = Unit
Only test row (r ∷ rs) = Where (test r) (r ≡ row) (Only test row rs)

-- what holds where the test does
first : (t : Bool) (A B : Type 0) → t ≡ true → Where t A B → A
first true A B e w = w.0
first false A B e w = absurd (true≢false (sym e))

-- what holds in either case
rest : (t : Bool) (A B : Type 0) → Where t A B → B
rest true A B w = w.1
rest false A B w = w

-- so is the one at an index, if it passes
only_at : (test : Row → Bool) (row : Row) (rs : List Row) (d : Row) → Only test row rs → test d ≡ false → (i : ℕ) →
    test (get_or rs i d) ≡ true → get_or rs i d ≡ row
only_at test row [] d o f i t = absurd (true≢false (sym t ∙ f))
only_at test row (r ∷ rs) d o f zero t = first (test r) _ _ t o
only_at test row (r ∷ rs) d o f (suc i) t = only_at test row rs d (rest (test r) _ _ o) f i t

-- the row whose step goes by the value is the frequency's
pub frequency-row : (entry : ℕ) → (row_of entry).scales ≡ true → row_of entry ≡ frequency
unfolding row_of table
frequency-row entry = only_at (λ r. r.scales) frequency table no_row (refl, tt) refl entry

-- the row that turns is the phase's
pub phase-row : (entry : ℕ) → (row_of entry).turns ≡ true → row_of entry ≡ phase
unfolding row_of table
phase-row entry = only_at (λ r. r.turns) phase table no_row (refl, tt) refl entry

-- a row's own step is not 0
pub row_step : (entry : ℕ) → 1 ≤ (row_of entry).step
unfolding table
row_step entry = leb→le 1 (row_of entry).step (row_rule (λ r. leb 1 r.step) tt tt entry)

-- a row's numbers together stay below half of 32 bits
abbrev sizes : Row → ℕ
sizes r = r.bias + r.high + r.most + r.step

-- which is so of every row
pub row_size : (entry : ℕ) → sizes (row_of entry) ≤ 2147483648
unfolding table
row_size entry = leb→le (sizes (row_of entry)) 2147483648 (row_rule (λ r. leb (sizes r) 2147483648) tt tt entry)

-- no row has more than four decimals
pub row_decimals : (entry : ℕ) → (row_of entry).decimals ≤ 4
unfolding table
row_decimals entry = leb→le (row_of entry).decimals 4 (row_rule (λ r. leb r.decimals 4) tt tt entry)

-- what holds of the six steps holds of the step that goes by the value, whatever the tests say
pub step_cases : (P : ℕ → Type 0) (below : ℕ → Bool) → P 1 → P 10 → P 100 → P 1000 → P 10000 → P 100000 →
    P (step_by below)
unfolding step_by
step_cases P below p q r s t u =
    by (below (hertz 10)) (below (hertz 100)) (below (hertz 1000)) (below (hertz 10000)) (below (hertz 100000)) where
      by : (a b c d e : Bool) → P (cond a 1 (cond b 10 (cond c 100 (cond d 1000 (cond e 10000 100000)))))
      by true b c d e = p
      by false true c d e = q
      by false false true d e = r
      by false false false true e = s
      by false false false false true = t
      by false false false false false = u

-- a step's bounds
pub record Step (s : ℕ) : Type 0 where
  pub least : 1 ≤ s
  pub most : s ≤ 100000

-- a step whose bounds compute
step : (s : ℕ) → T (leb 1 s && leb s 100000) → Step s
step s t =
    record {
      least = leb→le 1 s (and_left (leb 1 s) (leb s 100000) t);
      most = leb→le s 100000 (and_right (leb 1 s) (leb s 100000) t);
    }

-- every step that goes by the value is within these bounds
pub step_by_lem : (below : ℕ → Bool) → Step (step_by below)
step_by_lem below =
    step_cases Step below (step 1 tt) (step 10 tt) (step 100 tt) (step 1000 tt) (step 10000 tt) (step 100000 tt)

-- no step is 0
pub step-least : (entry whole : ℕ) → 1 ≤ step_of entry whole
unfolding step_of
step-least entry whole = by (row_of entry).scales where
  by : (t : Bool) → 1 ≤ cond t (frequency_step whole) (row_of entry).step
  by true = (step_by_lem (λ k. ltb whole k)).least
  by false = row_step entry
