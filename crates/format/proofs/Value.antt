-- The text of a number with decimals, by its cases. Assumes nothing.
use Prim.Native.Nat.{ℕ, ◌/◌, ◌^◌}
use mathlib.Core.Path.{◌≡◌}
use mathlib.Core.List.{List, [], ◌∷◌, append-nil}
use native.Mathlib.Nat.{div-one}
use borrow.Author.Tests.{ne_eqb}
use Rattle.number.specs.Number.{point}
use Rattle.format.specs.Text.{padded, plain, fixed}
use Rattle.format.specs.Parts.{appended}
use Rattle.format.proofs.Appended.{added_join}

-- with no decimals the number is plain
pub fixed_plain : (d n : ℕ) → d ≡ 0 → fixed d n ≡ plain n
unfolding fixed
fixed_plain d n e = rw (e, div-one, append-nil)

-- the whole part, the point and the decimals, added one after the other
pub fixed_added : (xs : List ℕ) {a b c : List ℕ} (d n : ℕ) → (d ≡ 0 → ⊥) → a ≡ appended xs (plain (n / 10 ^ d)) →
    b ≡ appended a (point ∷ []) →
    c ≡ appended b (padded d n) → c ≡ appended xs (fixed d n)
unfolding fixed
fixed_added xs d n h p q r = rw (r, q, added_join, p, added_join, ne_eqb d 0 h)
