-- Laws on tests: a proof by a test's two cases, the halves of two tests that both hold, and what cannot be. Assumes
-- nothing.
use Prim.Native.Nat.{ℕ}
use native.Mathlib.Omega.{arith}
use mathlib.Core.Path.{◌≡◌, refl}
use mathlib.Core.Bool.{Bool, true, false, cond, ◌&&◌, and-eq-true_iff}

-- a proof by a test's two cases, each with the equation that says which it is
pub split : {Goal : Type 0} (t : Bool) → (t ≡ true → Goal) → (t ≡ false → Goal) → Goal
split true f g = f refl
split false f g = g refl

-- what holds of both branches holds of the one that a test picks
pub cond_by : {A : Type 0} (P : A → Type 0) (t : Bool) {a b : A} → (t ≡ true → P a) → (t ≡ false → P b) → P (cond t a b)
cond_by P true f g = f refl
cond_by P false f g = g refl

-- the halves of two tests that both hold
pub and_first : (a b : Bool) → a && b ≡ true → a ≡ true
and_first a b h = ((and-eq-true_iff a b).0 h).0

pub and_second : (a b : Bool) → a && b ≡ true → b ≡ true
and_second a b h = ((and-eq-true_iff a b).0 h).1

-- nothing is both of two cases: of 0 and 1, to which congruence leads from two different cases
pub never : {A : Type 0} → ◌≡◌ {A = ℕ} 0 1 → A
never e = absurd (omega arith)
