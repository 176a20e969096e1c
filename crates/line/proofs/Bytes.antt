-- Bytes that a line does not have are in none of its commands. Assumes nothing.
use Prim.Native.Nat.{ℕ, zero, suc, ◌+◌, ◌≤◌, ◌<◌}
use mathlib.Core.Path.{◌≡◌, refl}
use mathlib.Core.Bool.{Bool, true, false, ◌||◌}
use mathlib.Core.List.{List, [], ◌∷◌}
use native.Mathlib.Omega.{arith}
use borrow.Author.Tests.{ltb-false, ne_eqb}
use Rattle.std.specs.List.{list_any}
use lib.Dec.{ltb, eqb}
use lib.ListN.{length, take, drop, length-take}
use Rattle.laws.proofs.Tests.{split, cond_by}
use Rattle.split.specs.Divide.{on_head, parts}
use Rattle.split.proofs.Counted.{parts-length}
use Rattle.line_text.specs.Clean.{line_limit, is_dropped, capital, cleaned, small_a, small_z}
use Rattle.line_text.specs.Texts.{semicolon}
use Rattle.line.specs.Parts.{texts_run, has}

-- a byte found by a test of each
pub any_has : (b : ℕ) (s : List ℕ) → list_any (λ x. eqb x b) s ≡ has b s
any_has b [] = refl
any_has b (x ∷ xs) = rw (any_has b xs)

-- neither of two tests holds
pub or-none : (a b : Bool) → (a || b) ≡ false → (a ≡ false) × (b ≡ false)
or-none false b h = (refl, h)
or-none true b h = (h, b_any b h) where
  b_any : (b : Bool) → true ≡ false → b ≡ false
  b_any false e = refl
  b_any true e = e

-- everything in a list is Such
abbrev pub Every : {A : Type 0} → (A → Type 0) → List A → Type 0
Every Such [] = Unit {0}
Every Such (x ∷ xs) = Such x × Every Such xs

-- a text without the byte b
abbrev pub Without : ℕ → List ℕ → Type 0
Without b s = has b s ≡ false

-- its first bytes
pub without_take : (b n : ℕ) (s : List ℕ) → Without b s → Without b (take n s)
without_take b zero s h = refl
without_take b (suc n) [] h = refl
without_take b (suc n) (x ∷ s) h =
    let both = or-none (eqb x b) (has b s) h in rw both.0 (without_take b n s both.1)

-- those after them
pub without_drop : (b n : ℕ) (s : List ℕ) → Without b s → Without b (drop n s)
without_drop b zero s h = h
without_drop b (suc n) [] h = refl
without_drop b (suc n) (x ∷ s) h = without_drop b n s (or-none (eqb x b) (has b s) h).1

-- the letter "A", the lowest byte that a small letter becomes
abbrev first_capital : ℕ
first_capital = 65

-- a byte below the capitals is none that a small letter becomes
capital-other : (b x : ℕ) → b < first_capital → eqb x b ≡ false → eqb (capital x) b ≡ false
capital-other b x l h =
    split (ltb x small_a) (λ e. rw e h)
    (λ e. rw e (split (ltb small_z x) (λ f. rw f h)
    (λ f. rw f (ne_eqb _ b (λ g. omega (arith, ltb-false x small_a e))))))

-- its bytes that count
pub without_cleaned : (b : ℕ) → b < first_capital → (s : List ℕ) → Without b s → Without b (cleaned s)
unfolding cleaned
without_cleaned b l [] h = refl
without_cleaned b l (x ∷ s) h =
    let both = or-none (eqb x b) (has b s) h in
    let rest = without_cleaned b l s both.1 in
    cond_by (Without b) (is_dropped x) (λ e. rest) (λ e. rw (capital-other b x l both.0) rest)

-- the first part with a byte more
head_without : (b x : ℕ) → eqb x b ≡ false → (ps : List (List ℕ)) → Every (Without b) ps →
    Every (Without b) (on_head x ps)
unfolding on_head
head_without b x e [] h = (rw e, tt)
head_without b x e (p ∷ ps) h = (rw e h.0, h.1)

-- its parts
pub without_parts : (b sep : ℕ) (s : List ℕ) → Without b s → Every (Without b) (parts sep s)
unfolding parts
without_parts b sep [] h = (refl, tt)
without_parts b sep (x ∷ s) h =
    let both = or-none (eqb x b) (has b s) h in
    let rest = without_parts b sep s both.1 in
    cond_by (Every (Without b)) (eqb x sep) (λ e. (refl, rest)) (λ e. head_without b x both.0 (parts sep s) rest)

-- what a line does not have, none of its commands has
pub without_texts : (b : ℕ) → b < first_capital → (line : List ℕ) → Without b line → Every (Without b) (texts_run line)
without_texts b l line h =
    without_parts b semicolon (take line_limit (cleaned line))
    (without_take b line_limit (cleaned line) (without_cleaned b l line h))

-- ---- how many commands there are

-- no more bytes count than there are
cleaned-length : (s : List ℕ) → length (cleaned s) ≤ length s
unfolding cleaned
cleaned-length [] = omega arith
cleaned-length (x ∷ s) =
    let rest = cleaned-length s in
    split (is_dropped x) (λ e. rw e (omega arith)) (λ e. rw e (omega arith))

-- at most one more than the line has bytes
pub texts_length : (line : List ℕ) → length (texts_run line) ≤ length line + 1
texts_length line =
    omega (
      arith,
      parts-length semicolon (take line_limit (cleaned line)),
      length-take line_limit (cleaned line),
      cleaned-length line,
    )
