-- How many parts there are. Assumes nothing.
use Prim.Native.Nat.{ℕ, suc, ◌≤◌}
use mathlib.Core.List.{List, [], ◌∷◌}
use native.Mathlib.Omega.{arith}
use lib.Dec.{eqb}
use lib.ListN.{length}
use Rattle.laws.proofs.Tests.{split}
use Rattle.split.specs.Divide.{on_head, parts}

-- at most one part more than there are bytes
head_length : (b : ℕ) (ps : List (List ℕ)) → length (on_head b ps) ≤ suc (length ps)
unfolding on_head
head_length b [] = omega arith
head_length b (p ∷ ps) = omega arith

pub parts-length : (sep : ℕ) (s : List ℕ) → length (parts sep s) ≤ suc (length s)
unfolding parts
parts-length sep [] = omega arith
parts-length sep (b ∷ bs) =
    let h = parts-length sep bs in
    let g = head_length b (parts sep bs) in
    split (eqb b sep) (λ e. rw e (omega arith)) (λ e. rw e (omega arith))
