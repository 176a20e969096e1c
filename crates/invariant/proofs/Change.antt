-- What a command does leads from a valid state to a valid one. Assumes nothing.
use Prim.Native.Nat.{ℕ, ◌≤◌}
use native.Mathlib.Omega.{arith}
use mathlib.Core.Path.{◌≡◌, refl}
use mathlib.Core.Bool.{true}
use lib.Bits.{bit_and}
use lib.Dec.{eqb}
use borrow.Author.Tests.{eqb-true}
use Rattle.outcome.specs.Code.{code_of}
use Rattle.outcome.specs.declared.Refusal.{Refusal}
use Rattle.outcome.proofs.Every.{refusal_rule}
use Rattle.settings.specs.Table.{send, next_entry, value_of, with_value}
use Rattle.settings.specs.Frequency.{detection_of, within_limit}
use Rattle.settings.specs.Valid.{value_valid}
use Rattle.settings.specs.declared.Settings.{Settings}
use Rattle.settings.proofs.Invariant.{with_keeps}
use Rattle.settings.proofs.Values.{value_either, detection_other}
use Rattle.storage.specs.Storage as storage
use Rattle.storage.specs.declared.Storage.{Storage}
use Rattle.storage.proofs.Preserved.{emptied_keeps, started_keeps, paused_keeps, reset_keeps}
use Rattle.status.specs.Status as status
use Rattle.status.specs.declared.Registers.{Registers}
use Rattle.status.specs.declared.Enables.{Enables}
use Rattle.status.proofs.Preserved.{cleared_keeps, bit-cleared_keeps, all_cleared_keeps, standard_keeps}
use Rattle.status.proofs.Preserved.{enable_keeps, enable-bit_keeps}
use Rattle.mnemonic.specs.declared.Action.{Action}
use Rattle.mnemonic.specs.declared.Action.TheVariants.{Reset, Clear, Start, Pause, Empty, Trigger}
use Rattle.command.specs.declared.SetArgument.{SetArgument}
use Rattle.command.specs.declared.SetArgument.TheVariants as set
use Rattle.command.specs.declared.QueryArgument.{QueryArgument}
use Rattle.command.specs.declared.QueryArgument.TheVariants as query
use Rattle.command.specs.declared.Kind.{Kind}
use Rattle.command.specs.declared.Kind.TheVariants.{Set, Query, Act}
use Rattle.state.specs.State.{with_storage, with_settings, with_acquisition, with_registers, with_enables, settled}
use Rattle.state.specs.State.{with_error_bit}
use Rattle.state.specs.Storing.{trigger_of}
use Rattle.state.specs.Valid.{valid_state}
use Rattle.state.specs.declared.Acquisition.{Acquisition}
use Rattle.state.specs.declared.State.{State}
use Rattle.state.proofs.Sound.{Tuning, Stored, sound, ranged, sound_valid, with-acquisition, with-status}
use Rattle.state.proofs.Sound.{capacity_known, reset_valid, settled-valid, trigger_valid}
use Rattle.precondition.specs.Allowed.{value_allowed, set_allowed, is_allowed}
use Rattle.precondition.proofs.Limit.{limit_after}
use Rattle.effect.specs.Effect.{with_pair, set_in, storage_by, storage_after}
use Rattle.effect.specs.Effect.{registers_asked, enables_set}
use Rattle.effect.specs.Effect.{state_after}
use Rattle.invariant.proofs.Storable.{channel_low, channel_high, StorableSet, Storable}

-- ---- one more setting

-- a SEND that is allowed finds storage reset
end-valid : (s : Settings) (m : Acquisition) (v : ℕ) → value_allowed s m send v ≡ true
    → storage.is_reset m.storage ≡ true
unfolding value_allowed
end-valid s m v p = p

-- settings beside an acquisition, but for its frequency range
record Holds (s : Settings) (m : Acquisition) (capacity : ℕ) : Type 0 where
  tuned : Tuning s m.external
  stored : Stored s m capacity

module _ (s : Settings) (m : Acquisition) (capacity : ℕ) (h : Holds s m capacity) (e v : ℕ)
    (k : value_valid e v ≡ true) where
  -- one more value, where the rules on it are met
  holds-with : within_limit (detection_of (with_value s e v) m.external) ≡ true →
      (send ≡ e → storage.is_reset m.storage ≡ true) → Holds (with_value s e v) m capacity
  holds-with limit end =
      record {
        tuned =
            record {
              values = with_keeps s e v h.tuned.values k;
              external = h.tuned.external;
              limit = limit;
            };
        stored =
            value_either s e v send (storage.is_valid m.storage capacity)
            (λ p. reset_keeps m.storage capacity (value_of s send) v (end p) h.stored)
            h.stored;
      }

  -- a setting with channels, which no rule binds
  free_holds : channel_low ≤ e → e ≤ channel_high → Holds (with_value s e v) m capacity
  free_holds l u =
      holds-with
      (rw (detection_other s e v (λ p. omega arith) (λ p. omega arith) (λ p. omega arith) m.external)
      h.tuned.limit)
      (λ p. absurd (omega arith))

  -- a value that is allowed
  value-holds : value_allowed s m e v ≡ true → Holds (with_value s e v) m capacity
  value-holds p = holds-with (limit_after s m e v h.tuned.limit p) (λ q. end-valid s m v (rw (← q) at p))

-- ---- a state with other parts

-- the bits of refusals are used ones
bits_free : (r : Refusal) → bit_and (code_of r).bits status.standard_unused ≡ 0
bits_free r = eqb-true _ 0 (refusal_rule (λ q. eqb (bit_and (code_of q).bits status.standard_unused) 0) refl r)

module _ (s : State) (h : valid_state s ≡ true) where
  -- other settings and enables, and what the frequency range does
  settings_stay : (t : Settings) (e : Enables) → Holds t s.acquisition s.installation.capacity →
      status.is_valid s.registers e ≡ true → valid_state (settled (with_settings t (with_enables e s))) ≡ true
  settings_stay t e k p =
      settled-valid (with_settings t (with_enables e s))
      (with-status (with-acquisition (sound s h) t s.acquisition k.tuned k.stored) s.registers e p)

  holds_now : Holds s.settings s.acquisition s.installation.capacity
  holds_now = record { tuned = (sound s h).tuned; stored = (sound s h).stored }

  set-stays : (a : SetArgument) → StorableSet a → set_allowed s.settings s.acquisition a ≡ true →
      valid_state (state_after (Set a) s) ≡ true
  unfolding state_after set_in with_pair enables_set set_allowed
  set-stays (set.Value entry v) k p =
      settings_stay (with_value s.settings entry v) s.enables
      (value-holds s.settings s.acquisition s.installation.capacity holds_now entry v k p)
      (sound s h).bits
  set-stays (set.Pair entry v w) k p =
      let capacity = s.installation.capacity in
      let first =
      free_holds s.settings s.acquisition capacity holds_now entry v k.first k.low
      (omega (arith, k.high, k.after)) in
      settings_stay (with_pair s.settings entry v w) s.enables
      (free_holds (with_value s.settings entry v) s.acquisition capacity first (next_entry entry) w k.second
      (omega (arith, k.low, k.after)) k.high)
      (sound s h).bits
  set-stays (set.Enable which v) k p =
      settings_stay s.settings (status.with_enable s.enables which v) holds_now
      (enable_keeps s.registers s.enables (sound s h).bits which v)
  set-stays (set.EnableBit which i v) k p =
      settings_stay s.settings (status.with_enable_bit s.enables which i v) holds_now
      (enable-bit_keeps s.registers s.enables (sound s h).bits which i v)

  -- other registers
  registers_stay : (r : Registers) → status.is_valid r s.enables ≡ true → valid_state (with_registers r s) ≡ true
  registers_stay r p = sound_valid (with_registers r s) (with-status (sound s h) r s.enables p) (ranged s h)

  -- another storage
  storage_stays : (t : Storage) → storage.is_valid t s.installation.capacity (value_of s.settings send) ≡ true →
      valid_state (with_acquisition (with_storage t s.acquisition) s) ≡ true
  storage_stays t p =
      let k = sound s h in
      let r = ranged s h in
      sound_valid (with_acquisition (with_storage t s.acquisition) s)
      (with-acquisition k s.settings (with_storage t s.acquisition) k.tuned p)
      (record { range = r.range; constant = r.constant })

  query-registers : (q : QueryArgument) → status.is_valid (registers_asked q s.registers) s.enables ≡ true
  unfolding registers_asked
  query-registers (query.Status which) = cleared_keeps s.registers s.enables (sound s h).bits which
  query-registers (query.StatusBit which i) = bit-cleared_keeps s.registers s.enables (sound s h).bits which i
  query-registers (query.Value entry) = (sound s h).bits
  query-registers (query.Pair entry) = (sound s h).bits
  query-registers (query.Enable which) = (sound s h).bits
  query-registers (query.EnableBit which i) = (sound s h).bits
  query-registers query.Identity = (sound s h).bits
  query-registers query.Points = (sound s h).bits
  query-registers (query.Trace form t bin count) = (sound s h).bits

  query-stays : (q : QueryArgument) → valid_state (state_after (Query q) s) ≡ true
  unfolding state_after
  query-stays q = registers_stay (registers_asked q s.registers) (query-registers q)

  act_stays : (a : Action) → valid_state (state_after (Act a) s) ≡ true
  unfolding state_after storage_after storage_by trigger_of
  act_stays Reset = reset_valid s h
  act_stays Clear = registers_stay status.all_cleared (all_cleared_keeps s.registers s.enables (sound s h).bits)
  act_stays Start =
      storage_stays (storage.started_of s.acquisition.storage)
      (started_keeps s.acquisition.storage s.installation.capacity (value_of s.settings send)
      (sound s h).stored)
  act_stays Pause =
      storage_stays (storage.paused_of s.acquisition.storage)
      (paused_keeps s.acquisition.storage s.installation.capacity (value_of s.settings send)
      (sound s h).stored)
  act_stays Empty =
      storage_stays storage.emptied_storage
      (emptied_keeps s.installation.capacity (value_of s.settings send)
      (capacity_known s.installation (sound s h).installation).least)
  act_stays Trigger = trigger_valid s h

  -- a command that the state allows
  pub after-stays : (kind : Kind) → Storable kind → is_allowed s.settings s.acquisition kind ≡ true →
      valid_state (state_after kind s) ≡ true
  unfolding is_allowed
  after-stays (Set a) k p = set-stays a k p
  after-stays (Query q) k p = query-stays q
  after-stays (Act a) k p = act_stays a

  -- a refused command
  pub marked-stays : (r : Refusal) → valid_state (with_error_bit r s) ≡ true
  unfolding with_error_bit
  marked-stays r =
      registers_stay (status.with_standard s.registers (code_of r).bits)
      (standard_keeps s.registers s.enables (sound s h).bits (code_of r).bits (bits_free r))
