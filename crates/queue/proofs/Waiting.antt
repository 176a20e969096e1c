-- The bytes that wait, read one after the other, and with one byte more. Assumes nothing.
use Prim.Native.Nat.{ℕ, ◌<◌}
use mathlib.Core.Path.{◌≡◌, refl, sym, ap, ◌∙◌}
use mathlib.Core.Bool.{true, false, not, ◌&&◌, and-eq-true_iff, and_assoc}
use mathlib.Core.List.{List, [], ◌∷◌, ◌++◌}
use native.Mathlib.Numerals.{add-one}
use lib.ListN.{length, take, drop, take-append-drop}
use lib.Seq.{take-suc-set}
use Rattle.queue.specs.declared.Queue.{Queue}
use Rattle.queue.specs.Queue.{longer, waiting_bytes, ends_line, no_end}

-- whether a byte ends a line among bytes in two parts
pub no-end_append : (port : ℕ) (xs ys : List ℕ) → no_end port (xs ++ ys) ≡ no_end port xs && no_end port ys
unfolding no_end
no-end_append port [] ys = refl
no-end_append port (x ∷ xs) ys =
    rw (no-end_append port xs ys) (sym (and_assoc (not (ends_line port x)) (no_end port xs) (no_end port ys)))

-- the same, for the two parts that bytes are split into
pub no-end_split : (port n : ℕ) (xs : List ℕ) → no_end port xs ≡ no_end port (take n xs) && no_end port (drop n xs)
no-end_split port n xs = ap (no_end port) (sym (take-append-drop n xs)) ∙ no-end_append port (take n xs) (drop n xs)

-- one byte more in a queue with room
pub waiting_more : (q : Queue) (b : ℕ) → q.len < length q.bytes → waiting_bytes (longer q b) ≡ waiting_bytes q ++ (b ∷ [])
waiting_more q b h = rw (add-one q.len, take-suc-set q.bytes q.len b h)

-- one byte more that ends no line
pub no-end_more : (port : ℕ) (xs : List ℕ) (b : ℕ) → no_end port xs ≡ true → ends_line port b ≡ false → no_end port (xs ++ (b ∷ [])) ≡ true
unfolding no_end
no-end_more port [] b h e = rw e
no-end_more port (x ∷ xs) b h e =
    let parts = (and-eq-true_iff (not (ends_line port x)) (no_end port xs)).0 h in
    rw parts.0 (no-end_more port xs b parts.1 e)
