-- A test of every number below a bound. Assumes nothing.
use Prim.Native.Nat.{ℕ, zero, suc, ◌+◌, ◌<◌}
use mathlib.Core.Path.{◌≡◌, refl}
use mathlib.Core.Bool.{Bool, true, false, ◌&&◌, and-false}
use native.Mathlib.Omega.{arith}
use native.Mathlib.Numerals.{add-one}
use lib.Dec.{eqb}
use borrow.Author.Tests.{eqb-true, eqb-false}
use Rattle.laws.proofs.Tests.{and_first, and_second}
use Rattle.settings.specs.Valid.{every}

module _ (test : ℕ → Bool) where
  -- one number more
  pub every_more : (n : ℕ) → every test n ≡ true → test n ≡ true → every test (n + 1) ≡ true
  unfolding every
  every_more n h t = rw (add-one n, h, t)

  -- one number at which it fails
  pub every_fails : (n i : ℕ) → i < n → test i ≡ false → every test n ≡ false
  unfolding every
  every_fails zero i h f = absurd (omega arith)
  every_fails (suc n) i h f = by (eqb i n) refl (λ l. every_fails n i l f) where
    by : (t : Bool) → eqb i n ≡ t → (i < n → every test n ≡ false) → (every test n && test n) ≡ false
    by true e ih = rw (← eqb-true i n e, f, and-false)
    by false e ih = rw (ih (omega (arith, eqb-false i n e)))

  -- the test at each number
  pub every_at : (n : ℕ) → every test n ≡ true → (i : ℕ) → i < n → test i ≡ true
  unfolding every
  every_at zero h i l = absurd (omega arith)
  every_at (suc n) h i l = by (eqb i n) refl (λ m. every_at n (and_first (every test n) (test n) h) i m) where
    by : (t : Bool) → eqb i n ≡ t → (i < n → test i ≡ true) → test i ≡ true
    by true e ih = rw (eqb-true i n e) (and_second (every test n) (test n) h)
    by false e ih = ih (omega (arith, eqb-false i n e))

  -- and back
  pub every_of : (n : ℕ) → ((i : ℕ) → i < n → test i ≡ true) → every test n ≡ true
  unfolding every
  every_of zero f = refl
  every_of (suc n) f = rw (every_of n (λ i l. f i (omega arith)), f n (omega arith))
