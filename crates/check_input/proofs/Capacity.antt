-- A capacity that is read byte by byte is as good to the check as the one that §14.1 gives for the line. Assumes
-- nothing.
use Prim.Native.Nat.{ℕ, ◌+◌, ◌-◌, ◌*◌, ◌<◌, ◌≤◌}
use native.Mathlib.Omega.{arith}
use mathlib.Core.Bool.{Bool, true, false, cond, ◌&&◌, and-false}
use mathlib.Core.Path.{◌≡◌, refl}
use mathlib.Core.List.{List, [], ◌∷◌}
use lib.Dec.{leb, ltb}
use borrow.Author.Tests.{lt-ltb, le-ltb, ltb-true, ltb-false, lt-leb}
use Rattle.number.specs.Number.{is_digit, all_digits}
use Rattle.number.specs.Value.{decimal_after}
use Rattle.settings.specs.Limits.{capacity_fits}
use Rattle.script.specs.Check.{check_of}
use Rattle.check_input.specs.Input.{capacity_of, limited_check}
use Rattle.check_input.specs.Bytes.{capacity_after}

-- the bytes of a line, one after the other
unfoldable pub capacity_all : List ℕ → ℕ → ℕ
capacity_all [] c = c
capacity_all (b ∷ bs) c = capacity_all bs (capacity_after b c)

-- two numbers that are equal, or neither of them a capacity
pub data AsGood (a b : ℕ) : Type 0 where
  equal : a ≡ b → AsGood a b
  unfit : capacity_fits a ≡ false → capacity_fits b ≡ false → AsGood a b

past : (n : ℕ) → 16383 < n → capacity_fits n ≡ false
past n h = rw (lt-leb n 16383 h) (and-false (leb 1 n))

stays : (bs : List ℕ) (c : ℕ) → 16383 < c → capacity_all bs c ≡ c
unfolding capacity_all capacity_after
stays [] c h = refl
stays (b ∷ bs) c h = rw (lt-ltb 16383 c h) (stays bs c h)

grows : (bs : List ℕ) (c : ℕ) → c ≤ decimal_after c bs
unfolding decimal_after
grows [] c = omega arith
grows (b ∷ bs) c = let h = grows bs (c * 10 + (b - 48)) in omega arith

-- past every capacity
beyond : (bs : List ℕ) (c : ℕ) → 16383 < c → AsGood (capacity_all bs c) (cond (all_digits bs) (decimal_after c bs) 0)
beyond bs c h = rw (stays bs c h) (unfit (past c h) (by (all_digits bs)))
  where
    by : (t : Bool) → capacity_fits (cond t (decimal_after c bs) 0) ≡ false
    by true = let g = grows bs c in past (decimal_after c bs) (omega arith)
    by false = refl

-- a digit more of a number that may be a capacity, or a byte that is no digit
one_more : (b : ℕ) (bs : List ℕ) (c : ℕ) (t : Bool) → is_digit b ≡ t → c ≤ 16383 →
    AsGood (capacity_all bs (c * 10 + (b - 48))) (cond (all_digits bs) (decimal_after (c * 10 + (b - 48)) bs) 0) →
    AsGood (capacity_all bs (capacity_after b c))
    (cond (is_digit b && all_digits bs) (decimal_after (c * 10 + (b - 48)) bs) 0)
unfolding capacity_after
one_more b bs c true e h later = rw (le-ltb 16383 c h, e) later
one_more b bs c false e h later = rw (le-ltb 16383 c h, e) (rw (stays bs 16384 (omega arith)) (unfit refl refl))

step : (b : ℕ) (bs : List ℕ) (c : ℕ) (t : Bool) → ltb 16383 c ≡ t →
    AsGood (capacity_all bs (c * 10 + (b - 48))) (cond (all_digits bs) (decimal_after (c * 10 + (b - 48)) bs) 0) →
    AsGood (capacity_all (b ∷ bs) c) (cond (all_digits (b ∷ bs)) (decimal_after c (b ∷ bs)) 0)
unfolding capacity_all all_digits decimal_after
step b bs c true e later = beyond (b ∷ bs) c (ltb-true 16383 c e)
step b bs c false e later = one_more b bs c (is_digit b) refl (ltb-false 16383 c e) later

read_from : (bs : List ℕ) (c : ℕ) → AsGood (capacity_all bs c) (cond (all_digits bs) (decimal_after c bs) 0)
read_from [] c = unfold capacity_all all_digits decimal_after in equal refl
read_from (b ∷ bs) c = step b bs c (ltb 16383 c) refl (read_from bs (c * 10 + (b - 48)))

pub as_told : (line : List ℕ) → AsGood (capacity_all line 0) (capacity_of line)
unfolding capacity_of
as_told line = read_from line 0

-- the check says the same at both
pub check_same : (a b : ℕ) (script : List ℕ) → AsGood a b → limited_check a script ≡ limited_check b script
unfolding limited_check check_of
check_same a b script (equal e) = rw e
check_same a b script (unfit f g) = rw (f, g)
