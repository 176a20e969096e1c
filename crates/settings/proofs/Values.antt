-- The values once one of them is set, the detection frequency, which goes by three of them alone, and the harmonic.
-- Assumes nothing.
use Prim.Native.Nat.{ℕ, ◌+◌, ◌≤◌, ◌<◌}
use native.Mathlib.Omega.{arith}
use mathlib.Core.Path.{◌≡◌, refl}
use mathlib.Core.Bool.{Bool, true, false, and-eq-true_iff}
use lib.Dec.{leb, ltb, eqb}
use lib.ListN.{length, get_or-eq_default}
use lib.Seq.{get_or-set_same, get_or-set_other, set_out}
use borrow.Author.Tests.{leb-true, ltb-true, ltb-false, lt-ltb, eqb-true, eqb-false}
use Rattle.settings.specs.Table.{entries, table, row_of, fmod, freq, harm, next_entry, value_of, with_value}
use Rattle.settings.specs.Frequency.{in_force, detection_of}
use Rattle.settings.specs.Valid.{value_valid, values_valid}
use Rattle.settings.specs.declared.Settings.{Settings}
use Rattle.settings.proofs.Every.{every_at}

-- a test of the value at an entry, once another value was set at one
pub value_either : (s : Settings) (e v i : ℕ) (test : ℕ → Bool) → (i ≡ e → test v ≡ true) → test (value_of s i) ≡ true →
    test (value_of (with_value s e v) i) ≡ true
value_either s e v i test p q = by (eqb i e) refl (ltb e (length s.values)) refl where
  by : (a : Bool) → eqb i e ≡ a → (b : Bool) → ltb e (length s.values) ≡ b →
      test (value_of (with_value s e v) i) ≡ true
  by false n b l = rw (get_or-set_other s.values e i v 0 (eqb-false i e n)) q
  by true n true l =
      let same = eqb-true i e n in
      rw (same, get_or-set_same s.values e v 0 (ltb-true e (length s.values) l)) (p same)
  by true n false l = rw (set_out s.values e v (ltb-false e (length s.values) l)) q

-- a test of the value that was set, which is 0 where there is no such entry
pub value_set : (s : Settings) (e v : ℕ) (test : ℕ → Bool) → test v ≡ true → test 0 ≡ true →
    test (value_of (with_value s e v) e) ≡ true
value_set s e v test p z = by (ltb e (length s.values)) refl where
  by : (b : Bool) → ltb e (length s.values) ≡ b → test (value_of (with_value s e v) e) ≡ true
  by true l = rw (get_or-set_same s.values e v 0 (ltb-true e (length s.values) l)) p
  by false l =
      let out = ltb-false e (length s.values) l in
      rw (set_out s.values e v out, get_or-eq_default s.values 0 out) z

-- settings with the same HARM, FMOD and FREQ have the same detection frequency
pub detection_by : (s t : Settings) → value_of s harm ≡ value_of t harm → value_of s fmod ≡ value_of t fmod →
    value_of s freq ≡ value_of t freq → (external : ℕ) → detection_of s external ≡ detection_of t external
unfolding detection_of in_force
detection_by s t h m f external = rw (h, m, f) refl

-- so another entry moves none
pub detection_other : (s : Settings) (e v : ℕ) → (harm ≡ e → ⊥) → (fmod ≡ e → ⊥) → (freq ≡ e → ⊥) →
    (external : ℕ) → detection_of (with_value s e v) external ≡ detection_of s external
detection_other s e v h m f =
    detection_by (with_value s e v) s (get_or-set_other s.values e harm v 0 h) (get_or-set_other s.values e fmod v 0 m)
    (get_or-set_other s.values e freq v 0 f)

-- the entry after an entry of the table
pub next_is : (entry : ℕ) → entry < entries → next_entry entry ≡ entry + 1
unfolding next_entry
next_is entry h = rw (lt-ltb entry entries h)

-- a harmonic that is kept is 1 to 19999
pub harm-kept : (s : Settings) → values_valid s ≡ true → (1 ≤ value_of s harm) × (value_of s harm ≤ 19999)
unfolding values_valid value_valid row_of table
harm-kept s k =
    let h = value_of s harm in
    let p = every_at (λ e. value_valid e (value_of s e)) entries k harm (omega arith) in
    let q = (and-eq-true_iff (leb 1 h) _).0 p in
    (leb-true 1 h q.0, leb-true h 19999 ((and-eq-true_iff (leb h 19999) _).0 q.1).0)
