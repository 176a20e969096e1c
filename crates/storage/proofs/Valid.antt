-- What it means that a state may hold a storage: the test as facts, and back. Assumes nothing.
use Prim.Native.Nat.{ℕ, ◌≤◌, ◌<◌}
use mathlib.Core.Bool.{Bool, true, false, cond, not, ◌&&◌, ◌||◌, and-eq-true_iff, false≢true}
use mathlib.Core.Path.{◌≡◌, sym, ◌∙◌}
use lib.Dec.{leb, eqb}
use borrow.Author.Tests.{ltb-true, leb-true, leb-false, eqb-true, lt-ltb, le-leb, lt-leb, eq-eqb, not-true}
use Rattle.laws.proofs.Tests.{split, and_first, and_second}
use Rattle.storage.specs.declared.Storage.{Storage}
use Rattle.storage.specs.Storage.{is_reset, is_done, full_in_one_shot, slots_kept, done_kept, reset_kept, is_valid}

pub record Kept (s : Storage) (capacity end : ℕ) : Type 0 where
  pub held : s.held ≤ capacity
  pub next : s.next < capacity
  pub level : s.held < capacity → s.next ≡ s.held
  pub done : is_done s ≡ full_in_one_shot s.held capacity end
  pub wrapped : is_done s ≡ true → s.next ≡ 0
  pub none : is_reset s ≡ true → s.held ≡ 0

-- done exactly if full in one shot, and then at slot 0
done_facts : (f d z : Bool) → cond f (d && z) (not d) ≡ true → (d ≡ f) × (d ≡ true → z ≡ true)
done_facts true d z h = (and_first d z h, λ _. and_second d z h)
done_facts false d z h = (not-true d h, λ e. absurd (false≢true (sym (not-true d h) ∙ e)))

module _ (s : Storage) (capacity end : ℕ) where
  pub facts : is_valid s capacity end ≡ true → Kept s capacity end
  unfolding is_valid slots_kept done_kept reset_kept
  facts k =
      let parts = (and-eq-true_iff _ _).0 k in
      let first = (and-eq-true_iff _ _).0 parts.0 in
      let slots = (and-eq-true_iff _ _).0 first.0 in
      let bounds = (and-eq-true_iff _ _).0 slots.0 in
      let ends = done_facts (full_in_one_shot s.held capacity end) (is_done s) (eqb s.next 0) first.1 in
      record {
        held = leb-true _ _ bounds.0;
        next = ltb-true _ _ bounds.1;
        level = λ (l : s.held < capacity). eqb-true _ _ (rw (lt-leb capacity s.held l) at slots.1);
        done = ends.0;
        wrapped = λ e. eqb-true _ _ (ends.1 e);
        none = λ e. eqb-true _ _ (rw e at parts.1);
      }

  pub test : Kept s capacity end → is_valid s capacity end ≡ true
  unfolding is_valid slots_kept done_kept reset_kept
  test k =
      let level : leb capacity s.held || eqb s.next s.held ≡ true =
      split (leb capacity s.held) (λ f. rw f) (λ f. rw (f, eq-eqb _ _ (k.level (leb-false _ _ f)))) in
      let done : done_kept s capacity end ≡ true =
      rw (← k.done) (split (is_done s) (λ d. rw (d, eq-eqb s.next 0 (k.wrapped d))) (λ d. rw d)) in
      rw (le-leb s.held capacity k.held, lt-ltb s.next capacity k.next, level, done)
      (split (is_reset s) (λ r. rw (r, eq-eqb s.held 0 (k.none r))) (λ r. rw r))
