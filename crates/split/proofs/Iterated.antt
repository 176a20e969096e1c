-- A slice's `split` at a byte gives the parts, one at a turn. Assumes nothing.
use mathlib.Core.Path.{◌≡◌, refl, ap, subst, ◌∙◌}
use mathlib.Core.Bool.{Bool, true, false, cond}
use mathlib.Core.List.{List, [], ◌∷◌, ◌++◌}
use Prim.Native.Nat.{ℕ}
use native.Mathlib.Omega.{arith}
use lib.Dec.{eqb}
use lib.ListN.{length, get_or}
use denote.Param.Members.{Mut}
use denote.Ref.{Bor}
use Rattle.std.specs.Bool.{MatchBool}
use Rattle.std.specs.Fn.{ComputesKey, CalledAt}
use Rattle.std.specs.List.{All, slice_split, onto_first, IsFirstMatchOrLen}
use Rattle.std.specs.declared.slice.Split.{Split}
use Rattle.std.specs.Slice.Iter.{split_steps}
use Rattle.std.proofs.Common.{Some}
use Rattle.std.proofs.lemmas.Fn.{always_returns_same}
use Rattle.std.proofs.lemmas.Grind.{common_steps}
use Rattle.std.proofs.lemmas.List.Splits.{slice_split_none, slice_split_at}
use Rattle.laws.proofs.Tests.{split}
use Rattle.split.specs.Divide.{on_head, parts}

-- the parts are std's
on_head_same : (b : ℕ) (ps : List (List ℕ)) → on_head b ps ≡ onto_first b ps
unfolding on_head
on_head_same b [] = refl
on_head_same b (p ∷ ps) = refl

parts_same : (sep : ℕ) (s : List ℕ) → parts sep s ≡ slice_split (λ b. eqb b sep) s
unfolding parts
parts_same sep [] = refl
parts_same sep (b ∷ bs) =
    split (eqb b sep) (λ e. rw e (rw (parts_same sep bs))) (λ e. rw e (rw (parts_same sep bs) (on_head_same b _)))

-- the first part, and those after it, where it ends with the bytes or at a separator
first_part : (p : ℕ → Bool) (xs x rest : List ℕ) (done : Bool) →
    MatchBool done (xs ≡ x) ((y : ℕ) × (xs ≡ x ++ (y ∷ rest))) → IsFirstMatchOrLen p xs (length x) →
    slice_split p xs ≡ x ∷ cond done [] (slice_split p rest)
first_part p xs x rest true e h =
    ap (slice_split p) e
    ∙ slice_split_none p x (λ k d l. subst (λ ys. p (get_or ys k d) ≡ false) e (h.0 k d (omega arith) l))
first_part p xs x rest false e h =
    let cut = e.1 in
    let front : All (λ z. p z ≡ false) x = λ k d l. let a = h.0 k d (omega arith) l in grind (arith, common_steps) in
    let hit : p e.0 ≡ true = let a = h.1 (grind (arith, common_steps)) e.0 in grind (arith, common_steps) in
    ap (slice_split p) e.1 ∙ slice_split_at p x e.0 rest front hit

module _ {F : Type 0} (sep : ℕ) where
  -- the parts that the iterator still gives
  abbrev pub left : Split ℕ F → List (List ℕ)
  left s = cond s.done [] (parts sep s.rest.now)

  -- at the start, all of them
  pub left_all : (s : Split ℕ F) (xs : List ℕ) → s.rest.now ≡ xs → s.done ≡ false → left s ≡ parts sep xs
  left_all s xs rest done = rw (rest, done)

  -- at the end, none
  pub left_none : (s : Split ℕ F) → s.done ≡ true → left s ≡ []
  left_none s done = rw done

  -- the part that it gives at a turn is the first of them, where its closure tests for the separator
  pub left_some : {g : Mut F (Bor ℕ × Unit {0}) Bool} (s t : Split ℕ F) (x : Bor (List ℕ)) →
      split_steps g s (Some x) t →
      ((b : ℕ) (r : Bool) (q : F) → CalledAt g s.pred b r q → (q ≡ s.pred) × (r ≡ eqb b sep)) →
      left s ≡ x.now ∷ left t
  left_some {g} s t x k tests =
      let p = λ (b : ℕ). eqb b sep in
      let keys : ComputesKey g p s.pred =
      always_returns_same g (λ a r. r ≡ p a.0.now) s.pred
      (λ a r q c. let m = tests a.0.now r q (record { shown = a.0; shows = refl; called = c }) in (m.1, m.0)) in
      rw (k.0, parts_same sep s.rest.now, parts_same sep t.rest.now)
      (first_part p s.rest.now x.now t.rest.now t.done k.1 (k.2 p keys).1)
