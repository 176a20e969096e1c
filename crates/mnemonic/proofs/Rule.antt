-- A rule on what the names stand for is one test that computes over their list. Assumes nothing.
use Prim.Native.Nat.{ℕ}
use mathlib.Core.Path.{◌≡◌, refl, sym}
use mathlib.Core.Bool.{Bool, true, false, true≢false, cond, ◌||◌, and-eq-true_iff}
use mathlib.Core.List.{List, [], ◌∷◌, foldr}
use Rattle.std.specs.Prelude.{Option, Some, None}
use lib.Dec.{eqb}
use borrow.Author.Tests.{eqb-true}
use Rattle.laws.proofs.Lists.{all}
use Rattle.laws.proofs.Tests.{never}
use Rattle.mnemonic.specs.Names.{Named, commands, same_bytes, meaning_in, meaning_of}
use Rattle.mnemonic.specs.declared.Meaning.{Meaning}

-- bytes that the test finds alike are the same
pub same_bytes_lem : (s t : List ℕ) → same_bytes s t ≡ true → s ≡ t
same_bytes_lem [] [] h = refl
same_bytes_lem [] (b ∷ t) h = absurd (true≢false (sym h))
same_bytes_lem (a ∷ s) [] h = absurd (true≢false (sym h))
same_bytes_lem (a ∷ s) (b ∷ t) h =
    let both = (and-eq-true_iff (eqb a b) (same_bytes s t)).0 h in rw (eqb-true a b both.0, same_bytes_lem s t both.1)

-- a test of a name with what it stands for
abbrev pub named_by : (List ℕ → Meaning → Bool) → Named → Bool
named_by p n = p n.name n.meaning

-- a test that each name of a list passes holds of what the list has a name stand for
all_in : (p : List ℕ → Meaning → Bool) (ns : List Named) → all (named_by p) ns ≡ true → (s : List ℕ) (m : Meaning) →
    meaning_in ns s ≡ Some m → p s m ≡ true
unfolding meaning_in
all_in p [] t s m e = never (cc)
all_in p (n ∷ ns) t s m e =
    let both = (and-eq-true_iff (p n.name n.meaning) (all (named_by p) ns)).0 t in
    by (same_bytes n.name s) refl e both.0 (all_in p ns both.1 s m)
  where
    by : (c : Bool) → same_bytes n.name s ≡ c → cond c (Some n.meaning) (meaning_in ns s) ≡ Some m →
        p n.name n.meaning ≡ true → (meaning_in ns s ≡ Some m → p s m ≡ true) → p s m ≡ true
    by true f e h rest = let same : n.meaning ≡ m = cc in rw (← same_bytes_lem n.name s f, ← same) h
    by false f e h rest = rest e

-- a test that computes to true over the list of names holds of what each name stands for
pub name_rule : (p : List ℕ → Meaning → Bool) → all (named_by p) commands ≡ true → (s : List ℕ) (m : Meaning) →
    meaning_of s ≡ Some m → p s m ≡ true
name_rule p = all_in p commands

-- whether a name stands for what passes a test
abbrev pub passes : (Meaning → Bool) → Option Meaning → Bool
passes p None = false
passes p (Some m) = p m

-- what some name of a list stands for passes a test
abbrev pub some : (Meaning → Bool) → List Named → Bool
some p ns = foldr (λ n t. passes p (meaning_of n.name) || t) false ns

-- a name that does, and what it stands for
abbrev pub Found : (Meaning → Bool) → Type 0
Found p = (name : List ℕ) × (m : Meaning) × (meaning_of name ≡ Some m) × (p m ≡ true)

pub name_found : (p : Meaning → Bool) (ns : List Named) → some p ns ≡ true → Found p
name_found p [] h = absurd (true≢false (sym h))
name_found p (n ∷ ns) h = by (meaning_of n.name) refl h (name_found p ns) where
  by : (o : Option Meaning) → meaning_of n.name ≡ o → (passes p o || some p ns) ≡ true →
      (some p ns ≡ true → Found p) → Found p
  by None e g rest = rest g
  by (Some m) e g rest = at (p m) refl g where
    at : (t : Bool) → p m ≡ t → (t || some p ns) ≡ true → Found p
    at true f g = (n.name, m, e, f)
    at false f g = rest g
