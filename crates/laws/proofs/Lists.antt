-- Laws on lists: a test of every member, which computes over a table. The toolchain's own does not compute. Assumes
-- nothing.
use Prim.Native.Nat.{ℕ, zero, suc}
use mathlib.Core.Path.{◌≡◌, refl}
use mathlib.Core.Bool.{Bool, true, ◌&&◌, and-eq-true_iff}
use mathlib.Core.List.{List, [], ◌∷◌, ◌++◌}
use lib.ListN.{get_or}

-- every member passes a test
abbrev pub all : {A : Type 0} → (A → Bool) → List A → Bool
all p [] = true
all p (x ∷ xs) = p x && all p xs

-- so does the one at an index, if what stands for it past the end passes too
pub all_at : {A : Type 0} (p : A → Bool) (d : A) → p d ≡ true → (xs : List A) → all p xs ≡ true →
    (i : ℕ) → p (get_or xs i d) ≡ true
all_at p d h [] t i = h
all_at p d h (x ∷ xs) t zero = ((and-eq-true_iff (p x) (all p xs)).0 t).0
all_at p d h (x ∷ xs) t (suc i) = all_at p d h xs ((and-eq-true_iff (p x) (all p xs)).0 t).1 i

-- of two lists joined
pub all_append : {A : Type 0} (p : A → Bool) (xs ys : List A) → all p xs ≡ true → all p ys ≡ true →
    all p (xs ++ ys) ≡ true
all_append p [] ys h k = k
all_append p (x ∷ xs) ys h k =
    let both = (and-eq-true_iff (p x) (all p xs)).0 h in rw (both.0, all_append p xs ys both.1 k)

-- of a wider test
pub all_wider : {A : Type 0} (p q : A → Bool) → ((x : A) → p x ≡ true → q x ≡ true) → (xs : List A) →
    all p xs ≡ true → all q xs ≡ true
all_wider p q f [] h = refl
all_wider p q f (x ∷ xs) h =
    let both = (and-eq-true_iff (p x) (all p xs)).0 h in rw (f x both.0, all_wider p q f xs both.1)
