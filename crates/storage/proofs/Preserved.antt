-- Storage stays one that a state may hold, whatever is done to it. Assumes nothing.
use Prim.Native.Nat.{ℕ, ◌+◌, ◌≤◌, ◌<◌, min}
use native.Mathlib.Omega.{arith}
use mathlib.Core.Bool.{Bool, true, false, cond, ◌||◌, and-eq-true_iff, and-false, false≢true}
use mathlib.Core.List.{List}
use mathlib.Core.Path.{◌≡◌, refl, sym, ap, ◌∙◌}
use lib.Dec.{leb, ltb, eqb}
use lib.ListN.{length}
use borrow.Author.Tests.{ltb-true, ltb-false, leb-true, lt-ltb, le-ltb, le-leb, lt-leb}
use Rattle.laws.proofs.Tests.{split, cond_by, and_first}
use Rattle.storage.specs.declared.Phase.{Phase}
use Rattle.storage.specs.declared.Phase.TheVariants.{Reset, Running, Paused, Done}
use Rattle.storage.specs.declared.Storage.{Storage}
use Rattle.storage.specs.declared.Sampling.{Sampling}
use Rattle.storage.specs.Storage.{one_shot, trigger_starts, is_reset, is_running, is_paused, is_done, in_phase, started_of, paused_of, emptied_storage, next_slot, held_after, full_in_one_shot, stored_of, storing, tick_stores, ticked_of, readied_of, trigger_stores, triggered_of, is_valid}
use Rattle.storage.proofs.Valid.{facts, test}

-- ---- what a state's storage has

module _ (s : Storage) (capacity end : ℕ) (k : is_valid s capacity end ≡ true) where
  pub keeps_held : s.held ≤ capacity
  keeps_held = (facts s capacity end k).held

  pub keeps_next : s.next < capacity
  keeps_next = (facts s capacity end k).next

  -- the next slot is one of the traces'
  pub slot_inside : (trace : List ℕ) → length trace ≡ capacity → s.next < length trace
  slot_inside trace e = rw e keeps_next

-- ---- the phases

reset_not-done : (p : Phase) (s : Storage) → is_reset (in_phase p s) ≡ true → is_done (in_phase p s) ≡ false
unfolding is_reset is_done
reset_not-done Reset s e = refl
reset_not-done Running s e = refl
reset_not-done Paused s e = refl
reset_not-done Done s e = absurd (false≢true e)

running_only : (p : Phase) (s : Storage) → is_running (in_phase p s) ≡ true → (is_done (in_phase p s) ≡ false) × (is_reset (in_phase p s) ≡ false)
unfolding is_reset is_running is_done
running_only Reset s e = absurd (false≢true e)
running_only Running s e = (refl, refl)
running_only Paused s e = absurd (false≢true e)
running_only Done s e = absurd (false≢true e)

-- ---- REST, STRT and PAUS

not_full : (capacity end : ℕ) → 1 ≤ capacity → full_in_one_shot 0 capacity end ≡ false
unfolding full_in_one_shot
not_full capacity end h = rw (lt-leb capacity 0 h) (and-false (eqb end one_shot))

pub emptied_keeps : (capacity end : ℕ) → 1 ≤ capacity → is_valid emptied_storage capacity end ≡ true
unfolding is_done
emptied_keeps capacity end h =
    test emptied_storage capacity end
    (record {
      held = omega arith;
      next = h;
      level = λ _. refl;
      done = sym (not_full capacity end h);
      wrapped = λ _. refl;
      none = λ _. refl;
    })

-- another phase, neither reset nor done
rephased : (p : Phase) (s : Storage) (capacity end : ℕ) → is_done (in_phase p s) ≡ is_done s → is_reset (in_phase p s) ≡ false → is_valid s capacity end ≡ true
    → is_valid (in_phase p s) capacity end ≡ true
rephased p s capacity end d r k =
    let f = facts s capacity end k in
    test (in_phase p s) capacity end
    (record {
      held = f.held;
      next = f.next;
      level = f.level;
      done = d ∙ f.done;
      wrapped = λ e. f.wrapped (sym d ∙ e);
      none = λ e. absurd (false≢true (sym r ∙ e));
    })

started-phase : (p : Phase) (s : Storage) (capacity end : ℕ) → is_valid (in_phase p s) capacity end ≡ true
    → is_valid (started_of (in_phase p s)) capacity end ≡ true
unfolding started_of is_reset is_paused is_done
started-phase Reset s capacity end k = rephased Running (in_phase Reset s) capacity end refl refl k
started-phase Running s capacity end k = k
started-phase Paused s capacity end k = rephased Running (in_phase Paused s) capacity end refl refl k
started-phase Done s capacity end k = k

paused_phase : (p : Phase) (s : Storage) (capacity end : ℕ) → is_valid (in_phase p s) capacity end ≡ true
    → is_valid (paused_of (in_phase p s)) capacity end ≡ true
unfolding paused_of is_running is_reset is_done
paused_phase Reset s capacity end k = k
paused_phase Running s capacity end k = rephased Paused (in_phase Running s) capacity end refl refl k
paused_phase Paused s capacity end k = k
paused_phase Done s capacity end k = k

pub started_keeps : (s : Storage) (capacity end : ℕ) → is_valid s capacity end ≡ true → is_valid (started_of s) capacity end ≡ true
started_keeps s = started-phase s.phase s

pub paused_keeps : (s : Storage) (capacity end : ℕ) → is_valid s capacity end ≡ true → is_valid (paused_of s) capacity end ≡ true
paused_keeps s = paused_phase s.phase s

-- SEND is set only while storage is reset (§7.5): there it may change
pub reset_keeps : (s : Storage) (capacity end other : ℕ) → is_reset s ≡ true → is_valid s capacity end ≡ true → is_valid s capacity other ≡ true
reset_keeps s capacity end other r k =
    let f = facts s capacity end k in
    test s capacity other
    (record {
      held = f.held;
      next = f.next;
      level = f.level;
      done =
          reset_not-done s.phase s r
          ∙ sym (ap (λ (n : ℕ). full_in_one_shot n capacity other) (f.none r) ∙ not_full capacity other (omega arith));
      wrapped = f.wrapped;
      none = f.none;
    })

-- ---- one more point

next_inside : (slot capacity : ℕ) → 1 ≤ capacity → next_slot slot capacity < capacity
unfolding next_slot
next_inside slot capacity h =
    cond_by (λ n. n < capacity) (ltb (slot + 1) capacity) (λ e. ltb-true (slot + 1) capacity e) (λ e. h)

next_on : (slot capacity : ℕ) → slot + 1 < capacity → next_slot slot capacity ≡ slot + 1
unfolding next_slot
next_on slot capacity h = rw (lt-ltb (slot + 1) capacity h)

next_round : (slot capacity : ℕ) → capacity ≤ slot + 1 → next_slot slot capacity ≡ 0
unfolding next_slot
next_round slot capacity h = rw (le-ltb (slot + 1) capacity h)

full_facts : (held capacity end : ℕ) → full_in_one_shot held capacity end ≡ true → (eqb end one_shot ≡ true) × (capacity ≤ held)
unfolding full_in_one_shot
full_facts held capacity end e =
    let both = (and-eq-true_iff (eqb end one_shot) (leb capacity held)).0 e in
    (both.0, leb-true capacity held both.1)

full_test : (held capacity end : ℕ) → eqb end one_shot ≡ true → capacity ≤ held → full_in_one_shot held capacity end ≡ true
unfolding full_in_one_shot
full_test held capacity end e h = rw (e, le-leb capacity held h)

-- the phase after a point, done or as it was
done_is : (s : Storage) (t : Bool) → is_done s ≡ false → is_done (in_phase (cond t Done s.phase) s) ≡ t
unfolding is_done
done_is s true d = refl
done_is s false d = d

never_reset : (s : Storage) (t : Bool) → is_reset s ≡ false → is_reset (in_phase (cond t Done s.phase) s) ≡ false
unfolding is_reset
never_reset s true d = refl
never_reset s false d = d

-- in one shot a running storage has room
pub room : (s : Storage) (capacity end : ℕ) → is_running s ≡ true → is_valid s capacity end ≡ true → eqb end one_shot ≡ true → s.held < capacity
room s capacity end r k o =
    split (ltb s.held capacity) (λ q. ltb-true _ _ q)
    (λ q. let full = full_test s.held capacity end o (ltb-false _ _ q) in
    absurd (false≢true (sym (running_only s.phase s r).0 ∙ (facts s capacity end k).done ∙ full)))

pub stored_keeps : (s : Storage) (capacity end : ℕ) → is_running s ≡ true → is_valid s capacity end ≡ true
    → is_valid (stored_of s capacity end) capacity end ≡ true
unfolding stored_of held_after is_reset is_done
stored_keeps s capacity end r k =
    let f = facts s capacity end k in
    let full = full_in_one_shot (min (s.held + 1) capacity) capacity end in
    let only = running_only s.phase s r in
    let done = done_is s full only.0 in
    test (stored_of s capacity end) capacity end
    (record {
      held = omega arith;
      next = next_inside s.next capacity (omega arith);
      level = λ (l : min (s.held + 1) capacity < capacity).
          let same = f.level (omega arith) in
          next_on s.next capacity (omega arith) ∙ omega arith;
      done = done;
      wrapped = λ e.
          let g = full_facts (min (s.held + 1) capacity) capacity end (sym done ∙ e) in
          let same = f.level (room s capacity end r k g.0) in
          next_round s.next capacity (omega arith);
      none = λ e. absurd (false≢true (sym (never_reset s full only.1) ∙ e));
    })

-- ---- ticks and triggers

storing_keeps : (t : Bool) (s : Storage) (capacity end : ℕ) → (t ≡ true → is_running s ≡ true) → is_valid s capacity end ≡ true
    → is_valid (storing t s capacity end) capacity end ≡ true
storing_keeps true s capacity end r k = stored_keeps s capacity end (r refl) k
storing_keeps false s capacity end r k = k

module _ (s : Storage) (capacity : ℕ) (by : Sampling) where
  pub ticked_keeps : is_valid s capacity by.end ≡ true → is_valid (ticked_of s capacity by).storage capacity by.end ≡ true
  unfolding ticked_of tick_stores
  ticked_keeps =
      storing_keeps (tick_stores s by) s capacity by.end (λ e. and_first (is_running s) _ e)

  pub readied_keeps : is_valid s capacity by.end ≡ true → is_valid (readied_of s by) capacity by.end ≡ true
  unfolding readied_of
  readied_keeps k =
      cond_by (λ r. is_valid r capacity by.end ≡ true) (eqb by.start trigger_starts)
      (λ e. started_keeps s capacity by.end k) (λ e. k)

  pub triggered_keeps : is_valid s capacity by.end ≡ true → is_valid (triggered_of s capacity by).storage capacity by.end ≡ true
  unfolding triggered_of trigger_stores
  triggered_keeps k =
      storing_keeps (trigger_stores s by) (readied_of s by) capacity by.end
      (λ e. and_first (is_running (readied_of s by)) _ e) (readied_keeps k)

-- STRT, PAUS and the start by a trigger leave the points held and the next slot, so the pair goes to that of the
-- storage before
pub record Same (t s : Storage) : Type 0 where
  pub held : t.held ≡ s.held
  pub next : t.next ≡ s.next

phase-same : (t : Bool) (p : Phase) (s : Storage) → Same (cond t (in_phase p s) s) s
phase-same true p s = record { held = refl; next = refl }
phase-same false p s = record { held = refl; next = refl }

pub started-same : (s : Storage) → Same (started_of s) s
unfolding started_of
started-same s = phase-same (is_reset s || is_paused s) Running s

pub paused_same : (s : Storage) → Same (paused_of s) s
unfolding paused_of
paused_same s = phase-same (is_running s) Paused s

pub readied_same : (s : Storage) (by : Sampling) → Same (readied_of s by) s
unfolding readied_of
readied_same s by =
    cond_by (λ r. Same r s) (eqb by.start trigger_starts) (λ e. started-same s)
    (λ e. record { held = refl; next = refl })
