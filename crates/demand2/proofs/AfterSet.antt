-- What a valid state keeps, and what a set leaves in it. Assumes nothing.
use Prim.Native.Nat.{ℕ, ◌+◌, ◌<◌}
use mathlib.Core.Path.{◌≡◌, refl, ap, ◌∙◌}
use mathlib.Core.Bool.{Bool, true, false, cond}
use native.Mathlib.Omega.{arith}
use lib.Dec.{eqb}
use lib.ListN.{length, length-set, get_or}
use lib.ListN as ListN
use lib.Seq.{get_or-set_same, get_or-set_other}
use borrow.Author.Tests.{eqb-true, eqb-false}
use Rattle.laws.proofs.Tests.{and_first}
use Rattle.settings.specs.Table.{entries, freq, oflt, next_entry, value_of, with_value}
use Rattle.settings.specs.Frequency.{is_internal, in_force, time_constant_stands}
use Rattle.settings.specs.Valid.{value_valid, values_valid, valid_settings}
use Rattle.settings.proofs.Values.{next_is, value_set, detection_other}
use Rattle.settings.proofs.Every.{every_at}
use Rattle.command.specs.declared.SetArgument.TheVariants as set
use Rattle.command.specs.declared.Kind.TheVariants.{Set}
use Rattle.state.specs.Valid.{parts_valid, valid_state}
use Rattle.state.specs.State.{with_settings, settled}
use Rattle.state.specs.declared.State.{State}
use Rattle.state.proofs.Sound.{Ranged, ranged, settled_same}
use Rattle.precondition.specs.Allowed.{value_allowed, set_allowed}
use Rattle.effect.specs.Effect.{with_pair, set_in, enables_set, state_after}
use Rattle.reply.specs.Text.{value_now}

-- every value of a valid state may be kept
pub kept-value : (s : State) → valid_state s ≡ true → (entry : ℕ) → entry < entries
    → value_valid entry (value_of s.settings entry) ≡ true
unfolding valid_state parts_valid valid_settings values_valid
kept-value s h = every_at (λ entry. value_valid entry (value_of s.settings entry)) entries
    (and_first _ _ (and_first _ _ (and_first _ _ h)))

-- the value that a query replies is the one kept; FREQ's in internal mode
pub now_kept : (s : State) (entry : ℕ) → (entry ≡ freq → is_internal s.settings ≡ true)
    → value_now s entry ≡ value_of s.settings entry
unfolding value_now in_force
now_kept s entry f = by (eqb entry freq) refl where
  by : (t : Bool) → eqb entry freq ≡ t
      → cond t (in_force s.settings s.acquisition.external) (value_of s.settings entry) ≡ value_of
      s.settings entry
  by true e =
      let z : entry ≡ freq = eqb-true entry freq e in
      rw (f z, z)
  by false e = refl

module _ (t : State) (full : length t.settings.values ≡ entries) where
  there : (entry v : ℕ) → entry < entries → get_or (ListN.set t.settings.values entry v) entry 0 ≡ v
  there entry v h = get_or-set_same t.settings.values entry v 0 (omega arith)

  -- an OFLT that is allowed stands in the range, which it does not change
  oflt-after : (v : ℕ) → valid_state t ≡ true → set_allowed t.settings t.acquisition (set.Value oflt v) ≡ true →
      value_of (state_after (Set (set.Value oflt v)) t).settings oflt ≡ v
  unfolding state_after set_in enables_set set_allowed value_allowed
  oflt-after v ok allowed =
      let x = t.settings in
      let external = t.acquisition.external in
      let changed = with_settings (with_value x oflt v) t in
      let same = detection_other x oflt v (λ e. omega arith) (λ e. omega arith) (λ e. omega arith) external in
      let r : Ranged changed.settings changed.acquisition =
      record {
        range = rw same (ranged t ok).range;
        constant = value_set x oflt v (time_constant_stands t.acquisition.range) allowed refl;
      } in
      ap (λ (u : State). value_of u.settings oflt) (settled_same changed r) ∙ there oflt v (omega arith)

  other_after : (entry v : ℕ) → entry < entries → (entry ≡ oflt → ⊥)
      → value_of (state_after (Set (set.Value entry v)) t).settings entry ≡ v
  unfolding state_after settled set_in
  other_after entry v h e = get_or-set_other (ListN.set t.settings.values entry v) oflt entry _ 0 e ∙ there entry v h

  -- a value that is allowed stands once it is set
  pub value_after : (entry v : ℕ) → entry < entries → valid_state t ≡ true →
      set_allowed t.settings t.acquisition (set.Value entry v) ≡ true →
      value_of (state_after (Set (set.Value entry v)) t).settings entry ≡ v
  value_after entry v h ok allowed = by (eqb entry oflt) refl where
    by : (c : Bool) → eqb entry oflt ≡ c → value_of (state_after (Set (set.Value entry v)) t).settings entry ≡ v
    by true e =
        let z = eqb-true entry oflt e in
        rw z (oflt-after v ok (rw z at allowed))
    by false e = other_after entry v h (eqb-false entry oflt e)

  -- and so does a pair past OFLT
  module _ (entry v w : ℕ) (past : oflt < entry) (inside : entry + 1 < entries) where
    pub pair-first : value_of (state_after (Set (set.Pair entry v w)) t).settings entry ≡ v
    unfolding state_after settled set_in with_pair
    pair-first =
        let first = ListN.set t.settings.values entry v in
        get_or-set_other (ListN.set first (next_entry entry) w) oflt entry _ 0 (omega arith)
        ∙ rw (next_is entry (omega arith)) (get_or-set_other first (entry + 1) entry w 0 (omega arith))
        ∙ there entry v (omega arith)

    pub pair-second : value_of (state_after (Set (set.Pair entry v w)) t).settings (next_entry entry) ≡ w
    unfolding state_after settled set_in with_pair
    pair-second =
        let first = ListN.set t.settings.values entry v in
        rw (next_is entry (omega arith))
        (get_or-set_other (ListN.set first (entry + 1) w) oflt (entry + 1) _ 0 (omega arith)
        ∙ get_or-set_same first (entry + 1) w 0 (omega (arith, length-set t.settings.values entry v)))
