-- Where points lie: pair n in slot n mod capacity, one more pair in the next slot, and bin j in the slot of the j-th
-- pair held. Assumes nothing.
use Prim.Native.Nat.{ℕ, suc, ◌+◌, ◌-◌, ◌%◌, ◌<◌, ◌≤◌, min}
use native.Mathlib.Nat.{mod-lt, mod_self, mod-eq_of_lt, suc-mod, mod-add-mod, add-mod_right, add-mod_left}
use native.Mathlib.Numerals.{add-one}
use native.Mathlib.Omega.{arith}
use mathlib.Core.Bool.{Bool, true, false, cond}
use mathlib.Core.List.{List, [], ◌∷◌, ◌++◌}
use mathlib.Core.Path.{◌≡◌, refl, sym, ap, ◌∙◌}
use lib.Dec.{ltb, leb}
use lib.ListN.{length, get_or, set, length-append, get_or-append}
use lib.Seq.{get_or-set_same, get_or-set_other, get_or-append_seam}
use borrow.Author.Tests.{ltb-true, ltb-false, leb-true, leb-false}
use Rattle.storage.specs.Storage.{next_slot}
use Rattle.state.specs.declared.Pair.{Pair}
use Rattle.points.specs.Points.{History, InSlots, pair_at}

-- the slot after that of pair n
pub next-mod : (n c : ℕ) → 1 ≤ c → next_slot (n % c) c ≡ (n + 1) % c
unfolding next_slot
next-mod n c h = rw (add-one n) (by (ltb (n % c + 1) c) refl)
  where
    by : (t : Bool) → ltb (n % c + 1) c ≡ t → cond t (n % c + 1) 0 ≡ suc n % c
    by true e = add-one (n % c) ∙ sym (mod-eq_of_lt (omega (arith, ltb-true (n % c + 1) c e))) ∙ sym (suc-mod n c)
    by false e =
        let full : suc (n % c) ≡ c = omega (arith, ltb-false (n % c + 1) c e, mod-lt n {m = c} h) in
        sym (suc-mod n c ∙ ap (λ (x : ℕ). x % c) full ∙ mod_self c)

-- as many slots before the next one as points are held, counted round: bin j lies where its pair does, whether the
-- slots are full or not
pub bin_mod : (n c j : ℕ) → 1 ≤ c → (n % c + (c - min n c) + j) % c ≡ (n - c + j) % c
bin_mod n c j h = by (leb c n) refl
  where
    by : (t : Bool) → leb c n ≡ t → (n % c + (c - min n c) + j) % c ≡ (n - c + j) % c
    by true e =
        let l : c ≤ n = leb-true c n e in
        let old : n % c + (c - min n c) + j ≡ n % c + j = omega arith in
        let new : n + j ≡ n - c + j + c = omega arith in
        ap (λ (x : ℕ). x % c) old ∙ mod-add-mod n c j ∙ ap (λ (x : ℕ). x % c) new ∙ add-mod_right (n - c + j) c
    by false e =
        let l : n < c = leb-false c n e in
        let old : n % c + (c - min n c) + j ≡ c + j = omega (arith, mod-eq_of_lt {n = n} {m = c} l) in
        let new : n - c + j ≡ j = omega arith in
        ap (λ (x : ℕ). x % c) old ∙ add-mod_left c j ∙ sym (ap (λ (x : ℕ). x % c) new)

-- two pairs fewer than a capacity apart lie in two slots
apart : (i d c : ℕ) → 0 < d → d < c → (i + d) % c ≡ i % c → ⊥
apart i d c p l e = by (ltb (i % c + d) c) refl
  where
    by : (t : Bool) → ltb (i % c + d) c ≡ t → ⊥
    by true f = omega (arith, mod-add-mod i c d, mod-eq_of_lt {n = i % c + d} {m = c} (ltb-true _ _ f))
    by false f =
        let r : i % c < c = mod-lt i {m = c} (omega arith) in
        let g : c ≤ i % c + d = ltb-false _ _ f in
        let back : i % c + d ≡ i % c + d - c + c = omega arith in
        let low : i % c + d - c < c = omega arith in
        omega (arith, mod-add-mod i c d, ap (λ (x : ℕ). x % c) back, add-mod_right (i % c + d - c) c, mod-eq_of_lt low)

pub longer : (history : History) (p : Pair) → length (history ++ (p ∷ [])) ≡ length history + 1
longer history p = rw length-append

-- one more pair, its word in the next slot: it overwrites none of the last pairs
module _ (word : Pair → ℕ) (history : History) (p : Pair) (c : ℕ) (trace : List ℕ) (some : 1 ≤ c)
    (fits : length trace ≡ c) where
  pub more_lies : InSlots word history c trace →
      InSlots word (history ++ (p ∷ [])) c (set trace (length history % c) (word p))
  more_lies lies n l u = by (ltb n (length history)) refl
    where
      by : (t : Bool) → ltb n (length history) ≡ t →
          get_or (set trace (length history % c) (word p)) (n % c) 0 ≡ word (pair_at (history ++ (p ∷ [])) n)
      by true e =
          let lower : n < length history = ltb-true n (length history) e in
          let far : length history < n + c = omega (arith, longer history p) in
          let sum : n + (length history - n) ≡ length history = omega arith in
          get_or-set_other trace (length history % c) (n % c) (word p) 0
          (λ (q : n % c ≡ length history % c).
          apart n (length history - n) c (omega arith) (omega arith) (ap (λ (x : ℕ). x % c) sum ∙ sym q))
          ∙ lies n lower (omega arith)
          ∙ ap word (sym (get_or-append history (p ∷ []) (record { one = 0; two = 0 }) n lower))
      by false e =
          let same : n ≡ length history = omega (arith, ltb-false n (length history) e, longer history p) in
          rw same
          (get_or-set_same trace (length history % c) (word p) 0 (omega (arith, mod-lt (length history) {m = c} some))
          ∙ ap word (sym (get_or-append_seam history p [] (record { one = 0; two = 0 }))))
