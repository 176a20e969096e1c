-- Points written one by one are those of the definition, and only their slots count. Assumes nothing.
use Prim.Native.Nat.{ℕ, zero, suc, ◌+◌, ◌-◌, ◌*◌, ◌%◌, ◌<◌, ◌≤◌}
use mathlib.Core.Path.{◌≡◌, refl, ap, ◌∙◌}
use mathlib.Core.List.{List, [], ◌∷◌, ◌++◌, append_assoc}
use native.Mathlib.Nat.{mod-add-mod, add-zero, add_assoc}
use native.Mathlib.Omega.{arith}
use borrow.Author.Tests.{ne_eqb}
use lib.ListN.{length, take, drop, get_or, length-append}
use lib.Seq.{take_at, drop_at, drop-drop, length-take-le}
use Rattle.point.specs.Bytes.{little_endian}
use Rattle.mnemonic.specs.declared.Form.{Form}
use Rattle.reply_buffer.specs.Buffer.{overwrite, word_at, formed, point_bytes}
use Rattle.reply_buffer.specs.Parts.{slot_of}
use Rattle.reply_buffer.proofs.Over.{word-length}

-- bytes w put at the place n of o: what is still to come follows them
pub put_more : (w p o : List ℕ) (n m : ℕ) → length w ≡ m → n + m ≤ length o
    → take (n + m) (take n o ++ w ++ drop (n + m) o) ++ overwrite p (drop (n + m) (take n o ++ w ++ drop (n + m) o))
    ≡ take n o ++ overwrite (w ++ p) (drop n o)
unfolding overwrite
put_more w p o n m e h =
    let q : List ℕ = take n o ++ w in
    let l : length q ≡ n + m =
    length-append (take n o) w ∙ ap (λ k. k + length w) (length-take-le n o (omega arith)) ∙ ap (λ k. n + k) e in
    rw (take_at q (drop (n + m) o) (n + m) l, drop_at q (drop (n + m) o) (n + m) l)
    (simp (append_assoc, drop-drop, length-append, e, add_assoc))

-- a turn of the loop that writes points
pub points_more : (form : Form) (trace o : List ℕ) (place i count x : ℕ) → x ≡ formed form (word_at trace (place + i)) →
    i < count → 4 * i + 4 ≤ length o
    → let new = take (4 * i) o ++ little_endian x ++ drop (4 * i + 4) o in
    take (4 * (i + 1)) new ++ overwrite (point_bytes form trace (place + (i + 1)) (count - (i + 1))) (drop (4 * (i + 1)) new)
    ≡ take (4 * i) o ++ overwrite (point_bytes form trace (place + i) (count - i)) (drop (4 * i) o)
unfolding point_bytes
points_more form trace o place i count x e h l =
    let a : 4 * (i + 1) ≡ 4 * i + 4 = omega arith in
    let b : count - i ≡ suc (count - (i + 1)) = omega arith in
    let d : place + (i + 1) ≡ suc (place + i) = omega arith in
    rw (e, a, b, d) (put_more _ _ o (4 * i) 4 (word-length _) l)

-- only the words count
pub same_words : (form : Form) (trace : List ℕ) (p q count : ℕ) →
    ((i : ℕ) → word_at trace (p + i) ≡ word_at trace (q + i))
    → point_bytes form trace p count ≡ point_bytes form trace q count
unfolding point_bytes
same_words form trace p q zero h = refl
same_words form trace p q (suc count) h =
    let w : word_at trace p ≡ word_at trace q = simp add-zero at (h 0) in
    let r : point_bytes form trace (suc p) count ≡ point_bytes form trace (suc q) count =
    same_words form trace (suc p) (suc q) count (λ i. rw (suc-add p i, suc-add q i) (h (suc i))) in
    rw (w, r)
  where
    suc-add : (n i : ℕ) → suc n + i ≡ n + suc i
    suc-add n i = omega arith

-- a trace that has a slot is read at the remainder
slot_mod : (slots place : ℕ) → 0 < slots → slot_of slots place ≡ place % slots
slot_mod slots place h = rw (ne_eqb slots 0 (omega arith))

-- the word at its slot; 0 of an empty trace
pub word_slot : (trace : List ℕ) (place : ℕ) → get_or trace (slot_of (length trace) place) 0 ≡ word_at trace place
unfolding word_at
word_slot [] place = refl
word_slot (x ∷ xs) place = ap (λ n. get_or (x ∷ xs) n 0) (slot_mod (suc (length xs)) place (omega arith))

words_slot : (trace : List ℕ) (place i : ℕ) → word_at trace (slot_of (length trace) place + i) ≡ word_at trace (place + i)
unfolding word_at
words_slot [] place i = refl
words_slot (x ∷ xs) place i =
    ap (λ n. get_or (x ∷ xs) ((n + i) % suc (length xs)) 0) (slot_mod (suc (length xs)) place (omega arith))
    ∙ ap (λ n. get_or (x ∷ xs) n 0) (mod-add-mod place (suc (length xs)) i)

-- the points from a place on are those from its slot on
pub points_slot : (form : Form) (trace : List ℕ) (place count : ℕ)
    → point_bytes form trace (slot_of (length trace) place) count ≡ point_bytes form trace place count
points_slot form trace place count =
    same_words form trace (slot_of (length trace) place) place count (words_slot trace place)
