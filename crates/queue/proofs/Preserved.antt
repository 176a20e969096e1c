-- A state's queue stays one that a state may hold. Assumes nothing.
use Prim.Native.Nat.{ℕ, ◌<◌}
use mathlib.Core.Path.{◌≡◌, refl, sym, ◌∙◌}
use mathlib.Core.Bool.{Bool, true, false, not, false≢true}
use native.Mathlib.Omega.{arith}
use lib.Dec.{ltb}
use lib.ListN.{length}
use borrow.Author.Tests.{ltb-true, ltb-false}
use Rattle.laws.proofs.Tests.{split}
use Rattle.queue.specs.declared.Queue.{Queue}
use Rattle.queue.specs.Queue.{line_limit, empty_queue, emptied_of, discarding_is, longer, waiting_bytes, ends_line, is_marked, is_end, dropped_of, too_long_of, appended_of, received_of, no_end, is_valid}
use Rattle.queue.proofs.Cases.{added_fits, added_full, received-dropped, received_ends, received_added}
use Rattle.queue.proofs.Waiting.{waiting_more, no-end_more}
use Rattle.queue.proofs.Valid.{facts, test}

pub empty_keeps : (port : ℕ) → is_valid empty_queue port ≡ true
unfolding is_valid no_end
empty_keeps port = refl

pub emptied_keeps : (q : Queue) (port : ℕ) → is_valid (emptied_of q) port ≡ true
unfolding is_valid no_end
emptied_keeps q port = refl

module _ (q : Queue) (port : ℕ) (k : is_valid q port ≡ true) where
  dropped_keeps : (t : Bool) → q.discarding ≡ true → is_valid (dropped_of q t).queue port ≡ true
  unfolding dropped_of
  dropped_keeps t d =
      let f = facts q port k in
      test (discarding_is (not t) q) port (record { fits = f.fits; none = λ _. f.none d; plain = f.plain })

  too_long_keeps : (marked : Bool) → is_valid (too_long_of q marked).queue port ≡ true
  unfolding too_long_of no_end
  too_long_keeps marked = test (discarding_is (not marked) (emptied_of q)) port (record { fits = omega arith; none = λ _. refl; plain = refl })

  module _ (b : ℕ) (long : length q.bytes ≡ line_limit) (d : q.discarding ≡ false) (e : ends_line port b ≡ false) where
    longer_keeps : q.len < line_limit → is_valid (longer q b) port ≡ true
    longer_keeps h =
        test (longer q b) port
        (record {
          fits = omega arith;
          none = λ t. absurd (false≢true (sym d ∙ t));
          plain = rw (waiting_more q b (omega arith)) (no-end_more port (waiting_bytes q) b (facts q port k).plain e);
        })

    added_keeps : (marked : Bool) → is_valid (appended_of q b marked).queue port ≡ true
    added_keeps marked =
        split (ltb q.len line_limit) (λ l. let h = ltb-true _ _ l in rw (added_fits q b marked h) (longer_keeps h))
        (λ l. rw (added_full q b marked (ltb-false _ _ l)) (too_long_keeps marked))

  pub received_keeps : (b : ℕ) (mark : Bool) → length q.bytes ≡ line_limit → is_valid (received_of q port b mark).queue port ≡ true
  received_keeps b mark long =
      split q.discarding
      (λ d. rw (received-dropped q port b mark d) (dropped_keeps (is_end port b mark) d))
      (λ d. split (ends_line port b) (λ e. rw (received_ends q port b mark d e) k)
      (λ e. rw (received_added q port b mark d e) (added_keeps b long d e (is_marked port mark))))
