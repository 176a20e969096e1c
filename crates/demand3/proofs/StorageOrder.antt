-- Storage of one course against that of the low one, which holds the fewest points: what each storage action keeps.
use Prim.Native.Nat.{ℕ, ◌+◌, ◌/◌, ◌≤◌, min}
use native.Mathlib.Omega.{arith}
use mathlib.Core.Bool.{Bool, true, false, cond, not, ◌&&◌}
use mathlib.Core.Path.{◌≡◌, refl}
use lib.Dec.{leb, eqb}
use borrow.Author.Tests.{leb-true, leb-false}
use Rattle.storage.specs.declared.Phase.{Phase}
use Rattle.storage.specs.declared.Phase.TheVariants.{Reset, Running, Paused, Done}
use Rattle.storage.specs.declared.Storage.{Storage}
use Rattle.storage.specs.declared.Sampling.{Sampling}
use Rattle.storage.specs.Storage.{external_rate, one_shot, trigger_starts, is_reset, is_running, is_paused, emptied_storage}
use Rattle.storage.specs.Storage.{started_of, paused_of, next_slot, held_after, full_in_one_shot, stored_of}
use Rattle.storage.specs.Storage.{tick_stores, ticked_of, readied_of, trigger_stores, triggered_of}

-- the phases in an order: in every course the phase is at least the low course's
unfoldable pub rank : Phase → ℕ
rank Reset = 0
rank Paused = 1
rank Running = 2
rank Done = 3

rank_most : (p : Phase) → rank p ≤ 3
unfolding rank
rank_most Reset = omega arith
rank_most Paused = omega arith
rank_most Running = omega arith
rank_most Done = omega arith

-- the low course's storage, and another's; one that is done is full
pub record Low (capacity : ℕ) (s t : Storage) : Type 0 where
  pub inside : s.held ≤ capacity
  pub fewer : s.held ≤ t.held
  pub full : 3 ≤ rank t.phase → capacity ≤ t.held
  pub below : rank s.phase ≤ rank t.phase

pub low_emptied : (capacity : ℕ) → Low capacity emptied_storage emptied_storage
unfolding rank
low_emptied capacity =
    record { inside = omega arith; fewer = omega arith; full = λ e. absurd (omega arith); below = omega arith }

-- a storage by its phase, how much it holds and its next slot
abbrev at : Phase → ℕ → ℕ → Storage
at p h n = record { phase = p; held = h; next = n }

-- ---- STRT and PAUS, which keep the points

-- 0, 1 and 2 become 2
started_is : (s : Storage) → (rank (started_of s).phase ≡ 2 + rank s.phase / 3) × ((started_of s).held ≡ s.held)
unfolding started_of is_reset is_paused rank
started_is s = by s.phase where
  by : (p : Phase) →
      let t = started_of (at p s.held s.next) in
      (rank t.phase ≡ 2 + rank p / 3) × (t.held ≡ s.held)
  by Reset = (refl, refl)
  by Running = (refl, refl)
  by Paused = (refl, refl)
  by Done = (refl, refl)

-- 2 becomes 1
paused_is : (s : Storage) →
    (rank (paused_of s).phase ≡ (rank s.phase + 1) / 2 + rank s.phase / 3) × ((paused_of s).held ≡ s.held)
unfolding paused_of is_running rank
paused_is s = by s.phase where
  by : (p : Phase) →
      let t = paused_of (at p s.held s.next) in
      (rank t.phase ≡ (rank p + 1) / 2 + rank p / 3) × (t.held ≡ s.held)
  by Reset = (refl, refl)
  by Running = (refl, refl)
  by Paused = (refl, refl)
  by Done = (refl, refl)

module _ (capacity : ℕ) (s t : Storage) (l : Low capacity s t) where
  -- both start, only the other one, both pause
  pub low-started : Low capacity (started_of s) (started_of t)
  low-started =
      let a = started_is s in
      let b = started_is t in
      record {
        inside = omega (arith, a.1, l.inside);
        fewer = omega (arith, a.1, b.1, l.fewer);
        full = λ e. omega (arith, b.1, l.full (omega (arith, b.0)));
        below = omega (arith, a.0, b.0, l.below);
      }

  low-begun : Low capacity s (started_of t)
  low-begun =
      let b = started_is t in
      record {
        inside = l.inside;
        fewer = omega (arith, b.1, l.fewer);
        full = λ e. omega (arith, b.1, l.full (omega (arith, b.0)));
        below = omega (arith, b.0, l.below, rank_most t.phase);
      }

  pub low_paused : Low capacity (paused_of s) (paused_of t)
  low_paused =
      let a = paused_is s in
      let b = paused_is t in
      let x : (rank s.phase + 1) / 2 ≤ (rank t.phase + 1) / 2 = omega (arith, l.below) in
      let y : rank s.phase / 3 ≤ rank t.phase / 3 = omega (arith, l.below) in
      record {
        inside = omega (arith, a.1, l.inside);
        fewer = omega (arith, a.1, b.1, l.fewer);
        full = λ e. omega (arith, b.1, l.full (omega (arith, b.0)));
        below = omega (arith, a.0, b.0, x, y);
      }

pub reset_started : (s : Storage) → is_reset (started_of s) ≡ false
unfolding started_of is_reset is_paused
reset_started s = by s.phase where
  by : (p : Phase) → is_reset (started_of (at p s.held s.next)) ≡ false
  by Reset = refl
  by Running = refl
  by Paused = refl
  by Done = refl

pub reset_paused : (s : Storage) → is_reset (paused_of s) ≡ is_reset s
unfolding paused_of is_reset is_running
reset_paused s = by s.phase where
  by : (p : Phase) → is_reset (paused_of (at p s.held s.next)) ≡ is_reset (at p s.held s.next)
  by Reset = refl
  by Running = refl
  by Paused = refl
  by Done = refl

-- ---- a running storage takes a point where t

fill : Bool → ℕ → ℕ → Storage → Storage
fill t capacity end s = cond (is_running s && t) (stored_of s capacity end) s

-- a running storage once it took one
abbrev put : ℕ → ℕ → ℕ → ℕ → Storage
put capacity end h n = stored_of (at Running h n) capacity end

-- it runs on, or is full and done
put_is : (capacity end h n : ℕ) →
    let t = put capacity end h n in
    (2 ≤ rank t.phase) × (t.held ≡ min (h + 1) capacity) × (3 ≤ rank t.phase → capacity ≤ t.held)
unfolding stored_of held_after full_in_one_shot rank
put_is capacity end h n = by (eqb end one_shot) (leb capacity (min (h + 1) capacity)) refl where
  by : (z u : Bool) → leb capacity (min (h + 1) capacity) ≡ u →
      let p = cond (z && u) Done Running in
      (2 ≤ rank p) × (min (h + 1) capacity ≡ min (h + 1) capacity) × (3 ≤ rank p → capacity ≤ min (h + 1) capacity)
  by true true e = (omega arith, refl, λ f. leb-true capacity _ e)
  by true false e = (omega arith, refl, λ f. absurd (omega arith))
  by false u e = (omega arith, refl, λ f. absurd (omega arith))

-- one that holds more is done no later
put_below : (capacity end a n b k : ℕ) → a ≤ b → rank (put capacity end a n).phase ≤ rank (put capacity end b k).phase
unfolding stored_of held_after full_in_one_shot rank
put_below capacity end a n b k h =
    by (eqb end one_shot) (leb capacity (min (a + 1) capacity)) (leb capacity (min (b + 1) capacity)) refl refl
  where
    by : (z u v : Bool) → leb capacity (min (a + 1) capacity) ≡ u → leb capacity (min (b + 1) capacity) ≡ v
        → rank (cond (z && u) Done Running) ≤ rank (cond (z && v) Done Running)
    by true true true p q = omega arith
    by true true false p q = absurd (omega (arith, leb-true capacity _ p, leb-false capacity _ q))
    by true false true p q = omega arith
    by true false false p q = omega arith
    by false u v p q = omega arith

module _ (capacity end : ℕ) where
  -- only the other one takes a point, both do, and only the low one, where the other is done
  other_put : (s : Storage) (b k : ℕ) → s.held ≤ capacity → s.held ≤ b → rank s.phase ≤ 2
      → Low capacity s (put capacity end b k)
  other_put s b k g h r =
      let q = put_is capacity end b k in
      record { inside = g; fewer = omega (arith, q.1); full = q.2; below = omega (arith, q.0) }

  both_put : (a n b k : ℕ) → a ≤ b → Low capacity (put capacity end a n) (put capacity end b k)
  both_put a n b k h =
      let p = put_is capacity end a n in
      let q = put_is capacity end b k in
      record {
        inside = omega (arith, p.1);
        fewer = omega (arith, p.1, q.1);
        full = q.2;
        below = put_below capacity end a n b k h;
      }

  low_put : (a n : ℕ) (t : Storage) → rank t.phase ≡ 3 → capacity ≤ t.held → Low capacity (put capacity end a n) t
  low_put a n t d h =
      let p = put_is capacity end a n in
      record {
        inside = omega (arith, p.1);
        fewer = omega (arith, p.1);
        full = λ e. h;
        below = omega (arith, rank_most (put capacity end a n).phase);
      }

  other_fill : (t : Bool) (s : Storage) (q : Phase) (b k : ℕ) → Low capacity s (at q b k)
      → Low capacity s (fill t capacity end (at q b k))
  unfolding fill is_running rank
  other_fill true s Running b k l = other_put s b k l.inside l.fewer l.below
  other_fill false s Running b k l = l
  other_fill t s Reset b k l = l
  other_fill t s Paused b k l = l
  other_fill t s Done b k l = l

  both_fill : (t : Bool) (p : Phase) (a n : ℕ) (q : Phase) (b k : ℕ) → Low capacity (at p a n) (at q b k)
      → Low capacity (fill t capacity end (at p a n)) (fill t capacity end (at q b k))
  unfolding fill is_running rank
  both_fill true Running a n Running b k l = both_put a n b k l.fewer
  both_fill true Running a n Done b k l = low_put a n (at Done b k) refl (l.full (omega arith))
  both_fill true Running a n Reset b k l = absurd (omega (arith, l.below))
  both_fill true Running a n Paused b k l = absurd (omega (arith, l.below))
  both_fill false Running a n q b k l = other_fill false (at Running a n) q b k l
  both_fill t Reset a n q b k l = other_fill t (at Reset a n) q b k l
  both_fill t Paused a n q b k l = other_fill t (at Paused a n) q b k l
  both_fill t Done a n q b k l = other_fill t (at Done a n) q b k l

  low-other_fill : (t : Bool) (s r : Storage) → Low capacity s r → Low capacity s (fill t capacity end r)
  low-other_fill t s r l = other_fill t s r.phase r.held r.next l

  low_fill : (t : Bool) (s r : Storage) → Low capacity s r
      → Low capacity (fill t capacity end s) (fill t capacity end r)
  low_fill t s r l = both_fill t s.phase s.held s.next r.phase r.held r.next l

  -- a storage that takes a point is as little reset as before
  put_reset : (b : Bool) (h n : ℕ) → is_reset (at (cond b Done Running) h n) ≡ false
  unfolding is_reset
  put_reset true h n = refl
  put_reset false h n = refl

  at_reset : (t : Bool) (p : Phase) (h n : ℕ) → is_reset (fill t capacity end (at p h n)) ≡ is_reset (at p h n)
  unfolding fill is_running stored_of is_reset
  at_reset true Running h n =
      put_reset (full_in_one_shot (held_after h capacity) capacity end) (held_after h capacity) (next_slot n capacity)
  at_reset false Running h n = refl
  at_reset t Reset h n = refl
  at_reset t Paused h n = refl
  at_reset t Done h n = refl

  fill_reset : (t : Bool) (s : Storage) → is_reset (fill t capacity end s) ≡ is_reset s
  fill_reset t s = at_reset t s.phase s.held s.next

-- ---- a tick and a trigger

ticked_is : (s : Storage) (capacity : ℕ) (by : Sampling)
    → (ticked_of s capacity by).storage ≡ fill (not (eqb by.rate external_rate)) capacity by.end s
unfolding ticked_of tick_stores fill
ticked_is s capacity by = refl

triggered_is : (s : Storage) (capacity : ℕ) (by : Sampling) →
    (triggered_of s capacity by).storage ≡ fill (eqb by.rate external_rate) capacity by.end (readied_of s by)
unfolding triggered_of trigger_stores fill
triggered_is s capacity by = refl

module _ (capacity : ℕ) (by : Sampling) where
  pub low_ticked : (s r : Storage) → Low capacity s r → Low capacity s (ticked_of r capacity by).storage
  low_ticked s r l = rw (ticked_is r capacity by) (low-other_fill capacity by.end _ s r l)

  readied_both : (t : Bool) (s r : Storage) → Low capacity s r
      → Low capacity (cond t (started_of s) s) (cond t (started_of r) r)
  readied_both true s r l = low-started capacity s r l
  readied_both false s r l = l

  readied_other : (t : Bool) (s r : Storage) → Low capacity s r → Low capacity s (cond t (started_of r) r)
  readied_other true s r l = low-begun capacity s r l
  readied_other false s r l = l

  pub low_triggered : (s r : Storage) → Low capacity s r
      → Low capacity (triggered_of s capacity by).storage (triggered_of r capacity by).storage
  unfolding readied_of
  low_triggered s r l =
      rw (triggered_is s capacity by, triggered_is r capacity by)
      (low_fill capacity by.end _ _ _ (readied_both (eqb by.start trigger_starts) s r l))

  pub low-event : (s r : Storage) → Low capacity s r → Low capacity s (triggered_of r capacity by).storage
  unfolding readied_of
  low-event s r l =
      rw (triggered_is r capacity by)
      (low-other_fill capacity by.end _ s _ (readied_other (eqb by.start trigger_starts) s r l))

  pub ticked_reset : (r : Storage) → is_reset (ticked_of r capacity by).storage ≡ is_reset r
  ticked_reset r = rw (ticked_is r capacity by) (fill_reset capacity by.end _ r)

  pub triggered_reset : (r : Storage) → is_reset (triggered_of r capacity by).storage ≡ is_reset (readied_of r by)
  triggered_reset r = rw (triggered_is r capacity by) (fill_reset capacity by.end _ (readied_of r by))
