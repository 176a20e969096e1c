-- Every event leads from a valid state to a valid one, and leaves what is fixed at start and the traces' lengths.
-- Assumes nothing.
use Prim.Native.Nat.{ℕ, ◌*◌}
use mathlib.Core.Bool.{Bool, true, false, cond, and-eq-true_iff}
use mathlib.Core.List.{List}
use mathlib.Core.Path.{◌≡◌, refl}
use lib.ListN.{length, set, length-set}
use Rattle.settings.specs.Table.{harm, value_of}
use Rattle.settings.specs.Frequency.{is_internal, in_force, detection_of, within_limit, frequency_in_range}
use Rattle.storage.specs.declared.StorageStep.{StorageStep}
use Rattle.status.specs.Status as status
use Rattle.status.specs.declared.Registers.{Registers}
use Rattle.status.proofs.Preserved.{lia_keeps, raised_keeps}
use Rattle.state.specs.State.{pair_of, at_frequency, with_registers, with_latest, settled}
use Rattle.state.specs.Storing.{trigger_of, tick_of, sampled_by, stored_in}
use Rattle.state.specs.Valid.{latest_valid, valid_state}
use Rattle.state.specs.declared.State.{State}
use Rattle.state.proofs.Sound.{Tuning, sound, ranged, sound_valid, with-acquisition, with-status, with-latest}
use Rattle.state.proofs.Sound.{settled-valid, tick_valid, trigger_valid}
use Rattle.event.specs.Event.{not_taken, done, refused, latest_taken, takes_frequency, with_external, measured_by}
use Rattle.event.specs.Event.{bits_raised, sampled_in, event_of}
use Rattle.event.specs.declared.Event.{Event}
use Rattle.event.specs.declared.Event.TheVariants.{Latest, Tick, Trigger, Measured, Raised}

-- what stays
pub record EventPreserves (e : Event) (s : State) (one two : List ℕ) : Type 0 where
  pub valid : valid_state s ≡ true → valid_state (event_of e s one two).after ≡ true
  pub installation : (event_of e s one two).after.installation ≡ s.installation
  pub first : length (event_of e s one two).one ≡ length one
  pub second : length (event_of e s one two).two ≡ length two

-- ---- valid states

module _ (s : State) (h : valid_state s ≡ true) where
  -- other registers
  registers_stay : (r : Registers) → status.is_valid r s.enables ≡ true → valid_state (with_registers r s) ≡ true
  registers_stay r p = sound_valid (with_registers r s) (with-status (sound s h) r s.enables p) (ranged s h)

  -- a new latest pair, taken or refused
  pair-stays : (w v : ℕ) → valid_state (latest_taken w v s).state ≡ true
  unfolding latest_taken
  pair-stays w v = by (latest_valid (pair_of w v)) refl where
    by : (t : Bool) → latest_valid (pair_of w v) ≡ t
        → valid_state (cond t (done (with_latest (pair_of w v) s)) (refused s)).state ≡ true
    by true p = sound_valid (with_latest (pair_of w v) s) (with-latest (sound s h) (pair_of w v) p) (ranged s h)
    by false p = h

  -- raised bits, taken or refused
  raised_stays : (lia errors : ℕ) → valid_state (bits_raised lia errors s).state ≡ true
  unfolding bits_raised
  raised_stays lia errors = by (status.may_raise lia errors) refl where
    by : (t : Bool) → status.may_raise lia errors ≡ t
        → valid_state
        (cond t (done (with_registers (status.with_raised s.registers lia errors) s)) (refused s)).state ≡ true
    by true p =
        registers_stay (status.with_raised s.registers lia errors)
        (raised_keeps s.registers s.enables (sound s h).bits lia errors p)
    by false p = h

  -- a frequency that is taken is in its range, and the detection frequency that it makes within the limit
  external-stays : (f : ℕ) → is_internal s.settings ≡ false → takes_frequency s f ≡ true
      → valid_state (settled (with_external f s)) ≡ true
  unfolding takes_frequency
  external-stays f m p =
      let k = sound s h in
      let both = (and-eq-true_iff (frequency_in_range f) (within_limit (value_of s.settings harm * f))).0 p in
      let t : Tuning s.settings f =
      record {
        values = k.tuned.values;
        external = both.0;
        limit = unfold detection_of in_force in rw m both.1;
      } in
      settled-valid (with_external f s)
      (with-acquisition k s.settings (at_frequency f s.acquisition) t k.stored)

  -- a measured frequency: ignored, taken, or not taken
  measured_stays : (f : ℕ) → valid_state (measured_by f s) ≡ true
  unfolding measured_by
  measured_stays f = by (is_internal s.settings) refl (takes_frequency s f) refl where
    by : (m : Bool) → is_internal s.settings ≡ m → (t : Bool) → takes_frequency s f ≡ t
        → valid_state
        (cond m s
        (cond t (settled (with_external f s))
        (with_registers (status.with_lia s.registers not_taken) s)))
        ≡ true
    by true q t p = h
    by false q true p = external-stays f q p
    by false q false p =
        registers_stay (status.with_lia s.registers not_taken)
        (lia_keeps s.registers s.enables (sound s h).bits not_taken refl)

pub event-stays : (e : Event) (s : State) (one two : List ℕ) → valid_state s ≡ true
    → valid_state (event_of e s one two).after ≡ true
unfolding event_of sampled_in
event-stays (Latest w v) s one two h = pair-stays s h w v
event-stays Tick s one two h = tick_valid s h
event-stays Trigger s one two h = trigger_valid s h
event-stays (Measured f) s one two h = measured_stays s h f
event-stays (Raised lia errors) s one two h = raised_stays s h lia errors

-- ---- what is fixed at start

installation_either : (t : Bool) (a b : State) → a.installation ≡ b.installation
    → (cond t (done a) (refused b)).state.installation ≡ b.installation
installation_either true a b p = p
installation_either false a b p = refl

installation_measured : (m t : Bool) (a b s : State) → a.installation ≡ s.installation
    → b.installation ≡ s.installation
    → (cond m s (cond t a b)).installation ≡ s.installation
installation_measured true t a b s p q = refl
installation_measured false true a b s p q = p
installation_measured false false a b s p q = q

pub event-installation : (e : Event) (s : State) (one two : List ℕ)
    → (event_of e s one two).after.installation ≡ s.installation
unfolding event_of latest_taken bits_raised measured_by settled sampled_in sampled_by
event-installation (Latest w v) s one two = installation_either (latest_valid (pair_of w v))
    (with_latest (pair_of w v) s) s refl
event-installation Tick s one two = refl
event-installation Trigger s one two = refl
event-installation (Measured f) s one two =
    installation_measured (is_internal s.settings) (takes_frequency s f)
    (settled (with_external f s))
    (with_registers (status.with_lia s.registers not_taken) s)
    s refl refl
event-installation (Raised lia errors) s one two =
    installation_either (status.may_raise lia errors)
    (with_registers (status.with_raised s.registers lia errors) s) s refl

-- ---- the lengths of the traces

pub stored-length : (p : StorageStep) (s : State) (w : ℕ) (trace : List ℕ)
    → length (stored_in p s w trace) ≡ length trace
unfolding stored_in
stored-length p s w trace = by p.stores where
  by : (t : Bool) → length (cond t (set trace s.acquisition.storage.next w) trace) ≡ length trace
  by true = length-set trace s.acquisition.storage.next w
  by false = refl

pub event-first : (e : Event) (s : State) (one two : List ℕ) → length (event_of e s one two).one ≡ length one
unfolding event_of sampled_in
event-first (Latest w v) s one two = refl
event-first Tick s one two = stored-length (tick_of s) s s.latest.one one
event-first Trigger s one two = stored-length (trigger_of s) s s.latest.one one
event-first (Measured f) s one two = refl
event-first (Raised lia errors) s one two = refl

pub event-second : (e : Event) (s : State) (one two : List ℕ) → length (event_of e s one two).two ≡ length two
unfolding event_of sampled_in
event-second (Latest w v) s one two = refl
event-second Tick s one two = stored-length (tick_of s) s s.latest.two two
event-second Trigger s one two = stored-length (trigger_of s) s s.latest.two two
event-second (Measured f) s one two = refl
event-second (Raised lia errors) s one two = refl

pub stays : (e : Event) (s : State) (one two : List ℕ) → EventPreserves e s one two
stays e s one two =
    record {
      valid = event-stays e s one two;
      installation = event-installation e s one two;
      first = event-first e s one two;
      second = event-second e s one two;
    }
