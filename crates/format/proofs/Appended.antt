-- Bytes added to a text. Assumes nothing.
use Prim.Native.Nat.{ℕ, zero, suc, ◌+◌, ◌≤◌, ◌<◌}
use mathlib.Core.Path.{◌≡◌, refl, sym, ap, ◌∙◌}
use mathlib.Core.List.{List, [], ◌∷◌, ◌++◌, append_assoc, append-nil}
use native.Mathlib.Omega.{arith}
use native.Mathlib.Numerals.{add-one}
use lib.ListN.{length, take, set, length-append, length-take}
use lib.Seq.{take_all, take_at, take-suc-set, length-take-le}
use Rattle.format.specs.Parts.{appended, text_limit}

-- two parts added one after the other are their join added
take_front : (n : ℕ) (xs bs : List ℕ) → take n (take n xs ++ bs) ≡ take n (xs ++ bs)
take_front zero xs bs = refl
take_front (suc n) [] bs = refl
take_front (suc n) (x ∷ xs) bs = ap (λ l. x ∷ l) (take_front n xs bs)

pub added_join : (xs a b : List ℕ) → appended (appended xs a) b ≡ appended xs (a ++ b)
unfolding appended
added_join xs a b = take_front text_limit (xs ++ a) b ∙ rw append_assoc

-- what fits is all there
pub added_fits : (xs bs : List ℕ) → length xs + length bs ≤ text_limit → appended xs bs ≡ xs ++ bs
unfolding appended
added_fits xs bs h = take_all text_limit (xs ++ bs) (rw length-append h)

pub added_none : (xs : List ℕ) → length xs ≤ text_limit → appended xs [] ≡ xs
added_none xs h = added_fits xs [] (omega arith) ∙ append-nil xs

-- no text is past the limit
pub text-length : (xs : List ℕ) (n : ℕ) → length xs ≡ text_limit → length (take n xs) ≤ text_limit
text-length xs n h = omega (arith, length-take n xs)

pub added_length : (xs bs : List ℕ) → length (appended xs bs) ≤ text_limit
unfolding appended
added_length xs bs = omega (arith, length-take text_limit (xs ++ bs))

-- nothing is added to a full text
pub added_full : (xs bs : List ℕ) → length xs ≡ text_limit → appended xs bs ≡ xs
unfolding appended
added_full xs bs h = take_at xs bs text_limit h

-- a store behind the bytes shown adds the byte
pub added_store : (xs : List ℕ) (n b : ℕ) → length xs ≡ text_limit → n < text_limit →
    take (n + 1) (set xs n b) ≡ appended (take n xs) (b ∷ [])
added_store xs n b h l =
    let k : n < length xs = omega arith in
    let e : length (take n xs) ≡ n = length-take-le n xs (omega arith) in
    rw (add-one, take-suc-set) (sym (added_fits (take n xs) (b ∷ []) (omega arith)))
