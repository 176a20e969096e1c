-- How long a number's text is at most: a value below 10 ^ 10 takes 12 bytes, so that two of them and a "," fit.
-- Assumes nothing.
use Prim.Native.Nat.{ℕ, ◌+◌, ◌^◌, ◌≤◌, ◌<◌}
use native.Mathlib.Omega.{arith}
use lib.Dec.{ltb, eqb}
use lib.ListN.{length, length-append}
use Rattle.laws.proofs.Tests.{split}
use Rattle.format.specs.Text.{plain, fixed, sign, distance, signed_text}
use Rattle.format.proofs.Digits.{padded-length, places_least, places_whole}

-- no longer than the digits of any power of ten above it
pub plain-length : (k n : ℕ) → 0 < k → n < 10 ^ k → length (plain n) ≤ k
unfolding plain
plain-length k n l h = rw padded-length (places_least n k l h)

-- the same digits and a point
pub fixed-length : (k d n : ℕ) → d < k → n < 10 ^ k → length (fixed d n) ≤ k + 1
unfolding fixed plain
fixed-length k d n l h =
    let g = places_whole k d n l h in
    rw (length-append, padded-length)
    (split (eqb d 0) (λ e. rw e (omega arith)) (λ e. rw (e, padded-length) (omega arith)))

-- the same digits, a point and a minus
pub signed-length : (k d bias v : ℕ) → d < k → distance bias v < 10 ^ k → length (signed_text d bias v) ≤ k + 2
unfolding signed_text sign
signed-length k d bias v l h =
    let g = fixed-length k d (distance bias v) l h in
    rw length-append (split (ltb v bias) (λ e. rw e (omega arith)) (λ e. rw e (omega arith)))
