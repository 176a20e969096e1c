-- `settings::on_frequency_step` meets its contract: each arm divides by the step. Assumes nothing.
use Prim.Native.Nat.{ℕ, ◌%◌}
use mathlib.Core.Path.{◌≡◌, refl, sym, ◌∙◌}
use mathlib.Core.Bool.{Bool}
use native.Mathlib.Nat.{mod-one}
use lib.Dec.{ltb, eqb}
use Rattle.settings.specs.Frequency.{frequency_step}
use Rattle.settings.proofs.Rows.{step_cases}
use Rattle.settings.proofs.on_frequency_step.Goals as goal

-- an arm's test, at the arm's step
at : {step : ℕ} {r : Bool} (value : ℕ) (k : ℕ) → step ≡ frequency_step value → step ≡ k → r ≡ eqb (value % k) 0 →
    r ≡ eqb (value % frequency_step value) 0
at value k is key r = r ∙ rw (sym key ∙ is)

-- none of the first five steps: the sixth
abbrev Last : ℕ → Type 0
Last s =
    ((((Unit × (s ≡ 1 → ⊥)) × (s ≡ 10 → ⊥)) × (s ≡ 100 → ⊥)) × (s ≡ 1000 → ⊥)) × (s ≡ 10000 → ⊥) → s ≡ 100000

last : (value : ℕ) → Last (frequency_step value)
last value =
    step_cases Last (λ k. ltb value k) (λ o. absurd (o.0.0.0.0.1 refl)) (λ o. absurd (o.0.0.0.1 refl))
    (λ o. absurd (o.0.0.1 refl)) (λ o. absurd (o.0.1 refl)) (λ o. absurd (o.1 refl)) (λ o. refl)

last_at : {step : ℕ} (value : ℕ) → step ≡ frequency_step value → Last step
last_at value is = rw is (last value)

pub returns-in-1 : goal.returns-in-1
returns-in-1 c = at _ 1 c.frequency_step.ensures c.in-1.is (rw (mod-one c.args.value))

pub returns-in-10 : goal.returns-in-10
returns-in-10 c = at _ 10 c.frequency_step.ensures c.in-10.is refl

pub returns-in-100 : goal.returns-in-100
returns-in-100 c = at _ 100 c.frequency_step.ensures c.in-100.is refl

pub returns-in-1000 : goal.returns-in-1000
returns-in-1000 c = at _ 1000 c.frequency_step.ensures c.in-1000.is refl

pub returns-in-10000 : goal.returns-in-10000
returns-in-10000 c = at _ 10000 c.frequency_step.ensures c.in-10000.is refl

pub returns-in_default : goal.returns-in_default
returns-in_default c =
    let is = c.frequency_step.ensures in at _ 100000 is (last_at _ is c.in_default.in_default-own.rest) refl
