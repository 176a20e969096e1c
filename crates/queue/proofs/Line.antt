-- A line's bytes, received one at a time, wait in their order, and never more than 256 wait. Assumes nothing.
use Prim.Native.Nat.{ℕ, ◌+◌, ◌≤◌, ◌<◌}
use mathlib.Core.Path.{◌≡◌, sym, ap, ◌∙◌}
use mathlib.Core.Bool.{Bool, true, false, cond, not, and-eq-true_iff}
use mathlib.Core.List.{List, [], ◌∷◌, ◌++◌, append-nil, append_assoc}
use native.Mathlib.Omega.{arith}
use lib.Dec.{ltb}
use lib.ListN.{length, length-take, length-set}
use borrow.Author.Tests.{ltb-true, ltb-false, not-true}
use Rattle.laws.proofs.Tests.{split}
use Rattle.queue.specs.declared.Queue.{Queue}
use Rattle.queue.specs.declared.LineEnd.TheVariants.{Nothing, Line}
use Rattle.queue.specs.Queue.{Received, line_limit, longer, waiting_bytes, ends_line, is_marked, no_end, is_valid}
use Rattle.queue.specs.Queue.{dropped_of, too_long_of, appended_of, received_of}
use Rattle.queue.proofs.Cases.{added_fits, added_full, received-dropped, received_ends, received_added}
use Rattle.queue.proofs.Waiting.{waiting_more}
use Rattle.queue.proofs.Valid.{facts}

-- ---- one byte

-- a byte that is no line end and fits is added, and its end mark, if it has one, ends the line
module _ (q : Queue) (port b : ℕ) (mark : Bool) (d : q.discarding ≡ false) (e : ends_line port b ≡ false) (room : q.len < line_limit) where
  pub received-longer : received_of q port b mark ≡ record { queue = longer q b; ending = cond (is_marked port mark) Line Nothing }
  received-longer = received_added q port b mark d e ∙ added_fits q b (is_marked port mark) room

  pub received_appends : length q.bytes ≡ line_limit → waiting_bytes (received_of q port b mark).queue ≡ waiting_bytes q ++ (b ∷ [])
  received_appends long = rw received-longer (waiting_more q b (omega arith))

-- ---- at most 256 bytes

pub waiting_length : (q : Queue) (port : ℕ) → is_valid q port ≡ true → length (waiting_bytes q) ≤ line_limit
waiting_length q port k =
    let f = (facts q port k).fits in
    omega (arith, length-take q.len q.bytes)

added_length : (q : Queue) (b : ℕ) (marked : Bool) → (appended_of q b marked).queue.len ≤ line_limit
unfolding too_long_of
added_length q b marked =
    split (ltb q.len line_limit) (λ l. let h = ltb-true _ _ l in rw (added_fits q b marked h) (omega arith))
    (λ l. rw (added_full q b marked (ltb-false _ _ l)) (omega arith))

pub received-length : (q : Queue) (port b : ℕ) (mark : Bool) → is_valid q port ≡ true → (received_of q port b mark).queue.len ≤ line_limit
unfolding dropped_of
received-length q port b mark k =
    split q.discarding (λ d. rw (received-dropped q port b mark d) (facts q port k).fits)
    (λ d. split (ends_line port b) (λ e. rw (received_ends q port b mark d e) (facts q port k).fits)
    (λ e. rw (received_added q port b mark d e) (added_length q b (is_marked port mark))))

-- ---- the storage stays as long as it is

added_bytes : (q : Queue) (b : ℕ) (marked : Bool) → length (appended_of q b marked).queue.bytes ≡ length q.bytes
unfolding too_long_of
added_bytes q b marked =
    split (ltb q.len line_limit)
    (λ l. rw (added_fits q b marked (ltb-true _ _ l)) (length-set q.bytes q.len b))
    (λ l. rw (added_full q b marked (ltb-false _ _ l)))

pub received-bytes : (q : Queue) (port b : ℕ) (mark : Bool) → length (received_of q port b mark).queue.bytes ≡ length q.bytes
unfolding dropped_of
received-bytes q port b mark =
    split q.discarding (λ d. rw (received-dropped q port b mark d))
    (λ d. split (ends_line port b) (λ e. rw (received_ends q port b mark d e))
    (λ e. rw (received_added q port b mark d e) (added_bytes q b (is_marked port mark))))

-- ---- a line's bytes

-- the queue after bytes with no end mark
unfoldable pub received_all : Queue → ℕ → List ℕ → Queue
received_all q port [] = q
received_all q port (b ∷ bs) = received_all (received_of q port b false).queue port bs

-- bytes that are no line end, and fit, wait behind those that were there
pub line-waits : (q : Queue) (port : ℕ) (bs : List ℕ) → q.discarding ≡ false → no_end port bs ≡ true → q.len + length bs ≤ line_limit
    → length q.bytes ≡ line_limit → waiting_bytes (received_all q port bs) ≡ waiting_bytes q ++ bs
unfolding received_all no_end
line-waits q port [] d e room long = sym (append-nil (waiting_bytes q))
line-waits q port (b ∷ bs) d e room long =
    let parts = (and-eq-true_iff (not (ends_line port b)) (no_end port bs)).0 e in
    ap (λ (r : Received). waiting_bytes (received_all r.queue port bs)) (received-longer q port b false d (not-true (ends_line port b) parts.0) (omega arith))
    ∙ line-waits (longer q b) port bs d parts.1 (omega arith) (length-set q.bytes q.len b ∙ long)
    ∙ rw (waiting_more q b (omega arith), append_assoc)
