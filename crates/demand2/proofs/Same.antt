-- A value that is set where it stands already: allowed in its own state, and nothing changes. Assumes nothing.
use Prim.Native.Nat.{ℕ, ◌%◌, ◌^◌, ◌<◌}
use mathlib.Core.Path.{◌≡◌, refl, ap, ◌∙◌}
use mathlib.Core.Bool.{Bool, true, false, cond, ◌&&◌, true≢false}
use mathlib.Core.List.Memᴰ
use mathlib.Core.List.{[], ◌∷◌}
use native.Mathlib.Omega.{arith}
use lib.Dec.{eqb}
use lib.ListN.{set as set_at}
use lib.Seq.{set-get_or, get_or-set_other}
use borrow.Author.Tests.{eqb-true}
use Rattle.mnemonic.specs.declared.Register.{Register}
use Rattle.mnemonic.specs.declared.Register.TheVariants.{Standard, Service, Lia, Errors}
use Rattle.settings.specs.Table.{fmod, freq, harm, oflt, send, next_entry, value_of}
use Rattle.settings.specs.Frequency.{is_internal, time_constant_stands}
use Rattle.settings.specs.declared.Settings.{Settings}
use Rattle.storage.specs.Storage.{is_reset}
use Rattle.status.specs.Bits.{bit_of, without_bit}
use Rattle.status.specs.Status.{enable_of, with_enable_byte, with_enable}
use Rattle.status.specs.declared.Enables.{Enables}
use Rattle.status.proofs.Bits.{apart_bits, power_here, bit_lt}
use Rattle.status.proofs.Preserved.{kept}
use Rattle.command.specs.declared.SetArgument.{SetArgument}
use Rattle.command.specs.declared.SetArgument.TheVariants as set
use Rattle.command.specs.declared.Kind.TheVariants.{Set}
use Rattle.state.specs.Valid.{valid_state}
use Rattle.state.specs.State.{settled}
use Rattle.state.specs.declared.Acquisition.{Acquisition}
use Rattle.state.specs.declared.State.{State}
use Rattle.state.proofs.Sound.{sound, ranged, settled_same}
use Rattle.precondition.specs.Allowed.{stays_within_limit, value_allowed, set_allowed}
use Rattle.effect.specs.Effect.{with_pair, set_in}
use Rattle.effect.specs.Effect.{enables_set, state_after}
use Rattle.invariant.specs.Representable.{EnablesFit}
use Rattle.demand2.specs.Demand2.{at_entry, at_enable, OthersStay}
use Rattle.demand2.specs.Demand2.{CanRefuse, frequency, harmonic, reference, constant}
use Rattle.demand2.specs.Demand2.{end}

-- ---- what a state asks of a value, by its entry

value_by : (s : Settings) (m : Acquisition) (entry v : ℕ) (P : Bool → Type 0) →
    (entry ≡ freq → P (is_internal s && stays_within_limit s m entry v)) →
    (entry ≡ harm → P (stays_within_limit s m entry v)) →
    (entry ≡ fmod → P (stays_within_limit s m entry v)) →
    (entry ≡ oflt → P (time_constant_stands m.range v)) →
    (entry ≡ send → P (is_reset m.storage)) →
    P true → P (value_allowed s m entry v)
unfolding value_allowed
value_by s m entry v P f h r c e o =
    if_else (eqb entry freq) (λ t. f (eqb-true entry freq t))
    (if_else (eqb entry harm) (λ t. h (eqb-true entry harm t))
    (if_else (eqb entry fmod) (λ t. r (eqb-true entry fmod t))
    (if_else (eqb entry oflt) (λ t. c (eqb-true entry oflt t))
    (if_else (eqb entry send) (λ t. e (eqb-true entry send t)) o))))
  where
    if_else : (t : Bool) {x y : Bool} → (t ≡ true → P x) → P y → P (cond t x y)
    if_else true p q = p refl
    if_else false p q = q

-- which sets a state can refuse
pub set-refused : (s : Settings) (m : Acquisition) (entry v : ℕ) → set_allowed s m (set.Value entry v) ≡ false →
    CanRefuse (at_entry entry ∷ [])
unfolding set_allowed
set-refused s m entry v =
    value_by s m entry v (λ t. t ≡ false → CanRefuse (at_entry entry ∷ []))
    (λ z p. rw z frequency) (λ z p. rw z harmonic) (λ z p. rw z reference) (λ z p. rw z constant) (λ z p. rw z end)
    (λ p. absurd (true≢false p))

-- ---- what stands may be set

module _ (s : State) (ok : valid_state s ≡ true) where
  own_limit : (entry : ℕ) → stays_within_limit s.settings s.acquisition entry (value_of s.settings entry) ≡ true
  unfolding stays_within_limit
  own_limit entry = rw (set-get_or s.settings.values entry 0) (sound s ok).tuned.limit

  pub value-back : (entry : ℕ) → (entry ≡ freq → is_internal s.settings ≡ true) →
      (entry ≡ send → is_reset s.acquisition.storage ≡ true) →
      set_allowed s.settings s.acquisition (set.Value entry (value_of s.settings entry)) ≡ true
  unfolding set_allowed
  value-back entry internal settable =
      value_by s.settings s.acquisition entry (value_of s.settings entry) (λ t. t ≡ true)
      (λ z. rw (internal z) (own_limit entry))
      (λ z. own_limit entry) (λ z. own_limit entry)
      (λ z. rw z (ranged s ok).constant)
      settable refl

-- ---- and changes nothing

-- a set that leaves settings and enables of a valid state as they are
set_same : (a : SetArgument) (s : State) → valid_state s ≡ true → set_in s.settings a ≡ s.settings →
    enables_set a s.enables ≡ s.enables → state_after (Set a) s ≡ s
unfolding state_after
set_same a s ok p q = rw (p, q) (settled_same s (ranged s ok))

module _ (s : State) (ok : valid_state s ≡ true) (entry : ℕ) where
  pub value_same : state_after (Set (set.Value entry (value_of s.settings entry))) s ≡ s
  unfolding set_in enables_set
  value_same =
      set_same (set.Value entry (value_of s.settings entry)) s ok
      (rw (set-get_or s.settings.values entry 0) refl) refl

  pub pair_same : state_after (Set
      (set.Pair entry (value_of s.settings entry) (value_of s.settings (next_entry entry)))) s ≡ s
  unfolding set_in with_pair enables_set
  pair_same =
      set_same (set.Pair entry (value_of s.settings entry) (value_of s.settings (next_entry entry))) s ok
      (rw (set-get_or s.settings.values entry 0, set-get_or s.settings.values (next_entry entry) 0) refl) refl

-- ---- enables

-- *SRE keeps no bit 6
service_free : (s : State) → valid_state s ≡ true → without_bit s.enables.service 6 ≡ s.enables.service
unfolding without_bit
service_free s ok =
    let x = s.enables.service in
    let k = kept s.registers s.enables (sound s ok).bits in
    let z : bit_of x 6 ≡ 0 = omega (arith, apart_bits x (2 ^ 6) k.service_free 6, power_here 6, bit_lt x 6) in
    rw z (omega arith)

pub enable-byte : (e : Enables) → EnablesFit e → (which : Register) → enable_of e which < 256
unfolding enable_of
enable-byte e fit Standard = fit.standard
enable-byte e fit Service = fit.service
enable-byte e fit Lia = fit.lia
enable-byte e fit Errors = fit.errors

module _ (s : State) (ok : valid_state s ≡ true) (fit : EnablesFit s.enables) where
  -- the byte that is kept of an enable's own value
  same_byte : (which : Register) → enable_of s.enables which % 256 ≡ enable_of s.enables which
  same_byte which = omega (arith, enable-byte s.enables fit which)

  -- in any enables, an enable set to that value has it
  pub enable-set : (e : Enables) (which : Register) →
      enable_of (with_enable e which (enable_of s.enables which)) which ≡ enable_of s.enables which
  unfolding with_enable
  enable-set e which = rw (same_byte which) (by which) where
    by : (which : Register) →
        enable_of (with_enable_byte e which (enable_of s.enables which)) which ≡ enable_of s.enables which
    by Standard = unfold enable_of with_enable_byte in refl
    by Service = unfold enable_of with_enable_byte in service_free s ok
    by Lia = unfold enable_of with_enable_byte in refl
    by Errors = unfold enable_of with_enable_byte in refl

  pub enable-same : (which : Register) → state_after (Set (set.Enable which (enable_of s.enables which))) s ≡ s
  unfolding set_in enables_set with_enable
  enable-same which =
      set_same (set.Enable which (enable_of s.enables which)) s ok refl (rw (same_byte which) (by which)) where
        by : (which : Register) → with_enable_byte s.enables which (enable_of s.enables which) ≡ s.enables
        by Standard = unfold enable_of with_enable_byte in refl
        by Service = unfold enable_of with_enable_byte in rw (service_free s ok) refl
        by Lia = unfold enable_of with_enable_byte in refl
        by Errors = unfold enable_of with_enable_byte in refl

  pub enable-after : (t : State) (which : Register) →
      enable_of (state_after (Set (set.Enable which (enable_of s.enables which))) t).enables which
      ≡ enable_of s.enables which
  unfolding state_after settled enables_set
  enable-after t which = enable-set t.enables which

-- ---- and values elsewhere stay

module _ (t : State) where
  -- an entry that is neither the set's nor OFLT's
  pub value-others : (entry v : ℕ) → OthersStay (at_entry entry ∷ []) t (state_after (Set (set.Value entry v)) t)
  unfolding state_after settled set_in enables_set
  value-others entry v (at_entry e) apart other =
      get_or-set_other (set_at t.settings.values entry v) oflt e _ 0 (λ z. other (ap at_entry z))
      ∙ get_or-set_other t.settings.values entry e v 0 (λ z. apart (Memᴰ.head (ap at_entry z)))
  value-others entry v (at_enable which) apart other = refl

  pub pair-others : (entry v w : ℕ) →
      OthersStay (at_entry entry ∷ at_entry (next_entry entry) ∷ []) t (state_after (Set (set.Pair entry v w)) t)
  unfolding state_after settled set_in with_pair enables_set
  pair-others entry v w (at_entry e) apart other =
      let first = set_at t.settings.values entry v in
      get_or-set_other (set_at first (next_entry entry) w) oflt e _ 0 (λ z. other (ap at_entry z))
      ∙ get_or-set_other first (next_entry entry) e w 0 (λ z. apart (Memᴰ.tail (Memᴰ.head (ap at_entry z))))
      ∙ get_or-set_other t.settings.values entry e v 0 (λ z. apart (Memᴰ.head (ap at_entry z)))
  pair-others entry v w (at_enable which) apart other = refl

  -- another enable
  other-enable : (which r : Register) (x : ℕ) → (r ≡ which → ⊥) →
      enable_of (with_enable_byte t.enables which x) r ≡ enable_of t.enables r
  unfolding enable_of with_enable_byte
  other-enable Standard Standard x n = absurd (n refl)
  other-enable Standard Service x n = refl
  other-enable Standard Lia x n = refl
  other-enable Standard Errors x n = refl
  other-enable Service Standard x n = refl
  other-enable Service Service x n = absurd (n refl)
  other-enable Service Lia x n = refl
  other-enable Service Errors x n = refl
  other-enable Lia Standard x n = refl
  other-enable Lia Service x n = refl
  other-enable Lia Lia x n = absurd (n refl)
  other-enable Lia Errors x n = refl
  other-enable Errors Standard x n = refl
  other-enable Errors Service x n = refl
  other-enable Errors Lia x n = refl
  other-enable Errors Errors x n = absurd (n refl)

  pub enable-others : (which : Register) (v : ℕ) →
      OthersStay (at_enable which ∷ []) t (state_after (Set (set.Enable which v)) t)
  unfolding state_after settled set_in enables_set with_enable
  enable-others which v (at_entry e) apart other =
      get_or-set_other t.settings.values oflt e _ 0 (λ z. other (ap at_entry z))
  enable-others which v (at_enable r) apart other = other-enable which r _ (λ z. apart (Memᴰ.head (ap at_enable z)))
