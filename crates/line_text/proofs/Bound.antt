-- Nothing of a line of at most 256 bytes is lost when it is cleaned. Assumes nothing.
use Prim.Native.Nat.{ℕ, ◌≤◌}
use mathlib.Core.Path.{◌≡◌}
use mathlib.Core.List.{List, [], ◌∷◌}
use native.Mathlib.Omega.{arith}
use lib.ListN.{length, take}
use lib.Seq.{take_all}
use Rattle.laws.proofs.Tests.{split}
use Rattle.line_text.specs.Clean.{is_dropped, cleaned}

pub cleaned-length : (line : List ℕ) → length (cleaned line) ≤ length line
unfolding cleaned
cleaned-length [] = omega arith
cleaned-length (b ∷ bs) =
    let h = cleaned-length bs in
    split (is_dropped b) (λ e. rw e (omega arith)) (λ e. rw e (omega arith))

pub all_cleaned : (line : List ℕ) → length line ≤ 256 → take 256 (cleaned line) ≡ cleaned line
all_cleaned line h = take_all 256 (cleaned line) (omega (arith, cleaned-length line))
