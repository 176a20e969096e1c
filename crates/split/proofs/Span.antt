-- The first separator, and the parts that it makes. Assumes nothing.
use mathlib.Core.Path.{◌≡◌, refl}
use mathlib.Core.List.{List, [], ◌∷◌}
use Prim.Native.Nat.{ℕ, zero, suc, ◌+◌, ◌-◌, ◌≤◌, ◌<◌}
use native.Mathlib.Omega.{arith}
use native.Mathlib.Numerals.{add-one}
use lib.Dec.{eqb, ltb}
use Rattle.std.specs.Option.{unwrap_or}
use Rattle.std.specs.List.{position, position_or_len}
use lib.ListN.{length, length-drop, take, drop, get_or}
use lib.Seq.{drop-cons, drop-drop, drop-length, take_all}
use borrow.Author.Tests.{eq-eqb, ltb-false, ne_eqb}
use Rattle.laws.proofs.Tests.{split, cond_by}
use Rattle.split.specs.Divide.{span, on_head, parts}

-- the first separator from an index on: at it, further on, or none left
pub span_hit : (sep : ℕ) (s : List ℕ) (i : ℕ) → i < length s → get_or s i 0 ≡ sep → span sep (drop i s) ≡ 0
unfolding span
span_hit sep s i h e = rw (drop-cons s i 0 h, eq-eqb (get_or s i 0) sep e)

pub span_miss : (sep : ℕ) (s : List ℕ) (i : ℕ) → i < length s → (get_or s i 0 ≡ sep → ⊥) → span sep (drop i s) ≡ suc (span sep (drop (i + 1) s))
unfolding span
span_miss sep s i h e = rw (drop-cons s i 0 h, ne_eqb (get_or s i 0) sep e, add-one i)

pub span-end : (sep : ℕ) (s : List ℕ) (i : ℕ) → i ≡ length s → span sep (drop i s) ≡ 0
unfolding span
span-end sep s i e = rw (e, drop-length s)

pub span_le : (sep : ℕ) (xs : List ℕ) → span sep xs ≤ length xs
unfolding span
span_le sep [] = omega arith
span_le sep (x ∷ xs) =
    let h = span_le sep xs in
    cond_by (λ n. n ≤ suc (length xs)) (eqb x sep) (λ e. omega arith) (λ e. omega arith)

-- the bytes that are no separator, at the front
span_prefix : (sep : ℕ) (xs : List ℕ) → position_or_len (λ b. eqb b sep) xs ≡ span sep xs
unfolding span
span_prefix sep [] = refl
span_prefix sep (x ∷ xs) = split (eqb x sep) (λ e. rw e) (λ e. rw (e, span_prefix sep xs) (omega arith))

-- the first separator's index, or the length where there is none
pub span_position : (sep : ℕ) (xs : List ℕ) → unwrap_or (position (λ b. eqb b sep) xs) (length xs) ≡ span sep xs
span_position sep xs =
    rw (span_prefix sep xs)
    (split (ltb (span sep xs) (length xs)) (λ e. rw e)
    (λ e. rw e (omega (arith, ltb-false (span sep xs) (length xs) e, span_le sep xs))))

-- the first part, and the others
pub parts_first : (sep : ℕ) (s : List ℕ) → parts sep s ≡ take (span sep s) s ∷ drop 1 (parts sep s)
unfolding span parts on_head
parts_first sep [] = refl
parts_first sep (b ∷ bs) = split (eqb b sep) (λ e. rw e) (λ e. rw e (rw (parts_first sep bs)))

-- the first part, and the others, where there is a separator
pub parts_more : (sep : ℕ) (xs : List ℕ) → span sep xs < length xs →
    parts sep xs ≡ take (span sep xs) xs ∷ parts sep (drop (suc (span sep xs)) xs)
unfolding parts span on_head
parts_more sep [] h = absurd (omega arith)
parts_more sep (x ∷ xs) h =
    split (eqb x sep) (λ e. rw e) (λ e. let g = rw e at h in rw e (rw (parts_more sep xs (omega arith))))

-- the only part, where there is none
pub parts_last : (sep : ℕ) (xs : List ℕ) → span sep xs ≡ length xs → parts sep xs ≡ xs ∷ []
unfolding parts span on_head
parts_last sep [] h = refl
parts_last sep (x ∷ xs) h =
    split (eqb x sep) (λ e. absurd (let g = rw e at h in omega arith))
    (λ e. let g = rw e at h in rw e (rw (parts_last sep xs (omega arith))))

-- a text walked part by part: the part that begins at a ends at e
module _ (sep : ℕ) (text : List ℕ) (a e : ℕ) (inside : a ≤ length text) (ends : e ≡ a + span sep (drop a text)) where
  -- the part, and those after it
  pub part_first : parts sep (drop a text) ≡ take (e - a) (drop a text) ∷ drop 1 (parts sep (drop a text))
  part_first = let size : e - a ≡ span sep (drop a text) = omega arith in rw size (parts_first sep (drop a text))

  -- none comes after the one that ends with the text
  pub part_last : e ≡ length text → drop 1 (parts sep (drop a text)) ≡ []
  part_last h =
      let whole : span sep (drop a text) ≡ length (drop a text) = simp length-drop (omega arith) in
      rw (parts_last sep (drop a text) whole)

  -- those after another begin past its separator
  pub part_more : e < length text → drop 1 (parts sep (drop a text)) ≡ parts sep (drop (e + 1) text)
  part_more h =
      let short : span sep (drop a text) < length (drop a text) = simp length-drop (omega arith) in
      let past : a + suc (span sep (drop a text)) ≡ e + 1 = omega arith in
      rw (parts_more sep (drop a text) short, drop-drop, past)

-- a part that goes on to the end
pub rest_from : (s : List ℕ) (i : ℕ) → take (length s - i) (drop i s) ≡ drop i s
rest_from s i = take_all (length s - i) (drop i s) (omega (arith, length-drop i s))

-- what stands within a list does not depend on what is said of the places past it
pub within : {A : Type 0} (l : List A) (d e : A) (n : ℕ) → n < length l → get_or l n d ≡ get_or l n e
within [] d e n g = absurd (omega arith)
within (x ∷ l) d e zero g = refl
within (x ∷ l) d e (suc n) g = within l d e n (omega arith)
