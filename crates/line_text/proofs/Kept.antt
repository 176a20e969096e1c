-- The bytes kept of a line so far, and those still to come. Assumes nothing.
use Prim.Native.Nat.{ℕ, ◌+◌, ◌<◌, ◌≤◌}
use mathlib.Core.Path.{◌≡◌}
use mathlib.Core.Bool.{true, false}
use mathlib.Core.List.{List, [], ◌∷◌, ◌++◌, append_assoc, append-nil}
use native.Mathlib.Omega.{arith}
use native.Mathlib.Numerals.{add-one}
use lib.ListN.{length, take, drop, set, get_or, drop_of_length-le}
use lib.Seq.{drop-cons, take-suc-set, take-append-le, take_all, length-take-le}
use Rattle.line_text.specs.Clean.{is_dropped, capital, cleaned}
use Rattle.line_text.specs.Clean.{line_limit}

module _ (line : List ℕ) (i : ℕ) (h : i < length line) where
  pub cleaned-drop : is_dropped (get_or line i 0) ≡ true → cleaned (drop i line) ≡ cleaned (drop (i + 1) line)
  unfolding cleaned
  cleaned-drop e = rw (add-one i, drop-cons line i 0 h, e)

  pub cleaned_keep : is_dropped (get_or line i 0) ≡ false →
      cleaned (drop i line) ≡ capital (get_or line i 0) ∷ cleaned (drop (i + 1) line)
  unfolding cleaned
  cleaned_keep e = rw (add-one i, drop-cons line i 0 h, e)

pub cleaned-end : (line : List ℕ) (i : ℕ) → length line ≤ i → cleaned (drop i line) ≡ []
unfolding cleaned
cleaned-end line i h = rw (drop_of_length-le line {i = i} h)

-- one byte more, kept or past the room
module _ (bytes : List ℕ) (len b : ℕ) (rest : List ℕ) (long : length bytes ≡ line_limit) where
  pub kept_more : len < line_limit →
      take line_limit (take (len + 1) (set bytes len b) ++ rest) ≡ take line_limit (take len bytes ++ b ∷ rest)
  kept_more h = rw (add-one len, take-suc-set bytes len b (omega arith), append_assoc)

  pub kept_full : len ≤ line_limit → line_limit ≤ len → take line_limit (take len bytes ++ rest) ≡ take line_limit (take len bytes ++ b ∷ rest)
  kept_full g h =
      let l : line_limit ≤ length (take len bytes) = omega (arith, length-take-le len bytes (omega arith)) in
      rw (take-append-le line_limit (take len bytes) rest l, take-append-le line_limit (take len bytes) (b ∷ rest) l)

pub kept_all : (bytes : List ℕ) (len : ℕ) → length bytes ≡ line_limit → len ≤ line_limit →
    take line_limit (take len bytes ++ []) ≡ take len bytes
kept_all bytes len long h = rw (append-nil (take len bytes)) (take_all line_limit (take len bytes) (omega (arith, length-take-le len bytes (omega arith))))
