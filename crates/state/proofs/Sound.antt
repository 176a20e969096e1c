-- A state is valid where each of its parts is: where one part is replaced, the others are passed on. Assumes nothing.
use Prim.Native.Nat.{ℕ, ◌%◌, ◌≤◌}
use native.Mathlib.Omega.{arith}
use native.Mathlib.Nat.{mod-one}
use mathlib.Core.Bool.{Bool, true, false, cond, ◌&&◌, ◌||◌, and-eq-true_iff}
use mathlib.Core.Path.{◌≡◌, refl}
use lib.Bits.{bit_and, or_zero_r}
use lib.Dec.{leb, eqb}
use lib.Seq.{get_or-set_other, set-get_or}
use borrow.Author.Tests.{le-leb, leb-true}
use Rattle.point.specs.Point.{is_legal}
use Rattle.settings.specs.Limits.{capacity_least, capacity_most, capacity_fits}
use Rattle.settings.specs.Table.{entries, table, row_of, oflt, send, start_settings, value_of, with_value}
use Rattle.settings.specs.Frequency.{detection_of, within_limit, range_stands, time_constant_stands, range_effect_of}
use Rattle.settings.specs.Frequency.{frequency_in_range, external_start}
use Rattle.settings.specs.Setting.{step_of}
use Rattle.settings.specs.Valid.{value_valid, values_valid, valid_settings}
use Rattle.settings.specs.declared.Settings.{Settings}
use Rattle.settings.proofs.Every.{every_at}
use Rattle.settings.proofs.Invariant.{with_keeps}
use Rattle.settings.proofs.Stands.{range_stands_lem, range_stays, effect_stands, effect_le, effect_bits, effect_none}
use Rattle.settings.proofs.Start.{start-valid as start-settings}
use Rattle.settings.proofs.Values.{value_set, detection_other}
use Rattle.storage.specs.Storage as storage
use Rattle.storage.specs.declared.StorageStep.{StorageStep}
use Rattle.storage.proofs.Preserved.{emptied_keeps, ticked_keeps, triggered_keeps}
use Rattle.queue.specs.Queue.{gpib}
use Rattle.status.specs.Status as status
use Rattle.status.specs.declared.Registers.{Registers}
use Rattle.status.specs.declared.Enables.{Enables}
use Rattle.status.proofs.Preserved.{start_keeps, lia_keeps}
use Rattle.state.specs.State.{start_acquisition, start_state, with_storage, with_settings, with_acquisition}
use Rattle.state.specs.State.{with_registers}
use Rattle.state.specs.State.{with_enables, with_latest, detection_now, range_settled, settled, sampling_of}
use Rattle.state.specs.Storing.{trigger_of, tick_of, sampled_by}
use Rattle.state.specs.Valid.{serial_most, installation_valid, latest_valid, parts_valid, valid_state}
use Rattle.state.specs.declared.Installation.{Installation}
use Rattle.state.specs.declared.Pair.{Pair}
use Rattle.state.specs.declared.Acquisition.{Acquisition}
use Rattle.state.specs.declared.State.{State}

-- ---- the parts

-- settings at an external frequency f, but for the frequency range
pub record Tuning (x : Settings) (f : ℕ) : Type 0 where
  pub values : values_valid x ≡ true
  pub external : frequency_in_range f ≡ true
  pub limit : within_limit (detection_of x f) ≡ true

-- a frequency range that may stand, and a time constant that may stand in it
pub record Ranged (x : Settings) (m : Acquisition) : Type 0 where
  pub range : range_stands (detection_of x m.external) m.range ≡ true
  pub constant : time_constant_stands m.range (value_of x oflt) ≡ true

-- what a storage keeps beside the settings
abbrev pub Stored : Settings → Acquisition → ℕ → Type 0
Stored x m capacity = storage.is_valid m.storage capacity (value_of x send) ≡ true

-- a state that is valid but for its frequency range, before it is settled
pub record Sound (s : State) : Type 0 where
  pub tuned : Tuning s.settings s.acquisition.external
  pub stored : Stored s.settings s.acquisition s.installation.capacity
  pub bits : status.is_valid s.registers s.enables ≡ true
  pub latest : latest_valid s.latest ≡ true
  pub installation : installation_valid s.installation ≡ true

-- valid settings, by their rules
pub tuning : (x : Settings) (m : Acquisition) → valid_settings x m.external m.range ≡ true →
    Tuning x m.external × Ranged x m
unfolding valid_settings
tuning x m h =
    let detection = detection_of x m.external in
    let set = (and-eq-true_iff _ _).0 h in
    let frequency = (and-eq-true_iff (frequency_in_range m.external) _).0 set.1 in
    let limit = (and-eq-true_iff (within_limit detection) _).0 frequency.1 in
    let range = (and-eq-true_iff (range_stands detection m.range) _).0 limit.1 in (
      record { values = set.0; external = frequency.0; limit = limit.0 },
      record { range = range.0; constant = range.1 },
    )

module _ (s : State) where
  -- a valid state, by its parts and by its frequency range
  parts : valid_state s ≡ true → Sound s × Ranged s.settings s.acquisition
  unfolding valid_state parts_valid
  parts h =
      let whole = (and-eq-true_iff _ _).0 h in
      let rest = (and-eq-true_iff _ _).0 whole.1 in
      let first = (and-eq-true_iff _ _).0 whole.0 in
      let kept = (and-eq-true_iff _ _).0 first.1 in
      let set = tuning s.settings s.acquisition first.0 in (
        record { tuned = set.0; stored = kept.0; bits = kept.1; latest = rest.0; installation = rest.1 },
        set.1,
      )

  pub sound : valid_state s ≡ true → Sound s
  sound h = (parts h).0

  pub ranged : valid_state s ≡ true → Ranged s.settings s.acquisition
  ranged h = (parts h).1

  -- and back
  pub sound_valid : Sound s → Ranged s.settings s.acquisition → valid_state s ≡ true
  unfolding valid_state parts_valid valid_settings
  sound_valid k r =
      let t = k.tuned in
      rw (
        t.values,
        t.external,
        t.limit,
        r.range,
        r.constant,
        k.stored,
        k.bits,
        k.latest,
        k.installation,
      )

-- ---- one part replaced

module _ {s : State} (k : Sound s) where
  -- other settings and another acquisition
  pub with-acquisition : (x : Settings) (m : Acquisition) → Tuning x m.external →
      Stored x m s.installation.capacity → Sound (with_acquisition m (with_settings x s))
  with-acquisition x m t p = record
      { tuned = t; stored = p; bits = k.bits; latest = k.latest; installation = k.installation }

  -- other registers and enables
  pub with-status : (r : Registers) (e : Enables) → status.is_valid r e ≡ true →
      Sound (with_registers r (with_enables e s))
  with-status r e p = record {
    tuned = k.tuned;
    stored = k.stored;
    bits = p;
    latest = k.latest;
    installation = k.installation;
  }

  -- another latest pair
  pub with-latest : (l : Pair) → latest_valid l ≡ true → Sound (with_latest l s)
  with-latest l p = record {
    tuned = k.tuned;
    stored = k.stored;
    bits = k.bits;
    latest = p;
    installation = k.installation;
  }

-- ---- at start and after *RST

-- an installation's capacity is in its range
pub record Capacity (u : Installation) : Type 0 where
  pub least : capacity_least ≤ u.capacity
  pub most : u.capacity ≤ capacity_most

pub capacity_known : (u : Installation) → installation_valid u ≡ true → Capacity u
unfolding installation_valid
capacity_known u k =
    let one = (and-eq-true_iff (leb u.serial serial_most) (leb u.port gpib && capacity_fits u.capacity)).0 k in
    let two = (and-eq-true_iff (leb u.port gpib) (capacity_fits u.capacity)).0 one.1 in
    let both = (and-eq-true_iff (leb capacity_least u.capacity) (leb u.capacity capacity_most)).0 two.1 in
    record { least = leb-true _ _ both.0; most = leb-true _ _ both.1 }

-- empty storage, whatever the capacity
fresh-stored : (u : Installation) → installation_valid u ≡ true → Stored start_settings start_acquisition u.capacity
fresh-stored u k = emptied_keeps u.capacity (value_of start_settings send) (capacity_known u k).least

-- the settings of a fresh state, with their frequency range
start_tuning : Tuning start_settings external_start × Ranged start_settings start_acquisition
start_tuning = tuning start_settings start_acquisition start-settings

-- a fresh state
pub start-valid : (u : Installation) → installation_valid u ≡ true → valid_state (start_state u) ≡ true
unfolding start_state
start-valid u k =
    sound_valid (start_state u)
    (record {
      tuned = start_tuning.0;
      stored = fresh-stored u k;
      bits = start_keeps;
      latest = unfold latest_valid is_legal in refl;
      installation = k;
    })
    start_tuning.1

-- a state after *RST
pub reset_valid : (s : State) → valid_state s ≡ true →
    valid_state (with_acquisition start_acquisition (with_settings start_settings s)) ≡ true
reset_valid s h =
    let k = sound s h in
    sound_valid (with_acquisition start_acquisition (with_settings start_settings s))
    (with-acquisition k start_settings start_acquisition start_tuning.0
    (fresh-stored s.installation k.installation))
    start_tuning.1

-- ---- the frequency range

-- a time constant is 0 to 19
constant_keeps : (x : ℕ) → x ≤ 19 → value_valid oflt x ≡ true
unfolding value_valid step_of row_of table
constant_keeps x h = rw (le-leb 0 x (omega arith), le-leb x 19 h, mod-one x)

constant-most : (x : ℕ) → value_valid oflt x ≡ true → x ≤ 19
unfolding value_valid step_of row_of table
constant-most x h =
    let above = (and-eq-true_iff (leb 0 x) (leb x 19 && eqb (x % 1) 0)).0 h in
    leb-true x 19 ((and-eq-true_iff (leb x 19) (eqb (x % 1) 0)).0 above.1).0

-- a shorter one may be kept where the old one was
shorter_keeps : (s : Settings) (x : ℕ) → values_valid s ≡ true → x ≤ value_of s oflt
    → values_valid (with_value s oflt x) ≡ true
unfolding values_valid
shorter_keeps s x h l =
    let old = constant-most (value_of s oflt)
    (every_at (λ e. value_valid e (value_of s e)) entries h oflt (omega arith)) in
    with_keeps s oflt x h (constant_keeps x (omega arith))

-- whatever the range was, the state is valid once it is settled
pub settled-valid : (s : State) → Sound s → valid_state (settled s) ≡ true
unfolding settled range_settled
settled-valid s k =
    let x = s.settings in
    let m = range_settled x s.acquisition in
    let external = s.acquisition.external in
    let old = s.acquisition.range in
    let constant = value_of x oflt in
    let effect = range_effect_of old m.range constant in
    let y = with_value x oflt effect.constant in
    let same = detection_other x oflt effect.constant (λ e. omega arith) (λ e. omega arith)
    (λ e. omega arith) external in
    let t = k.tuned in
    sound_valid (settled s)
    (with-status
    (with-acquisition k y m
    (record {
      values = shorter_keeps x effect.constant t.values (effect_le old m.range constant);
      external = t.external;
      limit = rw same t.limit;
    })
    (rw (get_or-set_other x.values oflt send effect.constant 0 (λ e. omega arith)) k.stored))
    (status.with_lia s.registers effect.bits) s.enables
    (lia_keeps s.registers s.enables k.bits effect.bits
    (effect_bits old m.range constant (λ bits. bit_and bits status.lia_unused ≡ 0) refl refl refl refl)))
    (record {
      range = rw same (range_stands_lem (detection_of x external) old);
      constant =
          value_set x oflt effect.constant (time_constant_stands m.range)
          (effect_stands old m.range constant) refl;
    })

-- where the range and the time constant may stand already, nothing changes
pub settled_same : (s : State) → Ranged s.settings s.acquisition → settled s ≡ s
unfolding settled range_settled
settled_same s r =
    let old = s.acquisition.range in
    rw (
      range_stays (detection_now s) old r.range,
      effect_none old (value_of s.settings oflt) r.constant,
      set-get_or s.settings.values oflt 0,
      or_zero_r s.registers.lia,
    )
    refl

-- ---- a trigger, TRIG and a tick

module _ (s : State) (h : valid_state s ≡ true) where
  -- another storage, and LIA bits that are used ones
  sampled_valid : (p : StorageStep) →
      storage.is_valid p.storage s.installation.capacity (value_of s.settings send) ≡ true →
      bit_and p.bits status.lia_unused ≡ 0 → valid_state (sampled_by p s) ≡ true
  unfolding sampled_by
  sampled_valid p q free =
      let k = sound s h in
      let r = ranged s h in
      sound_valid (sampled_by p s)
      (with-status (with-acquisition k s.settings (with_storage p.storage s.acquisition) k.tuned q)
      (status.with_lia s.registers p.bits) s.enables
      (lia_keeps s.registers s.enables k.bits p.bits free))
      (record { range = r.range; constant = r.constant })

  -- a tick sets no LIA bit
  pub tick_valid : valid_state (sampled_by (tick_of s) s) ≡ true
  unfolding tick_of sampling_of storage.ticked_of
  tick_valid =
      let by = sampling_of s.settings in
      sampled_valid (tick_of s) (ticked_keeps s.acquisition.storage s.installation.capacity by
      (sound s h).stored) refl

  -- a trigger sets LIA bit 6 or none
  pub trigger_valid : valid_state (sampled_by (trigger_of s) s) ≡ true
  unfolding trigger_of sampling_of storage.triggered_of
  trigger_valid =
      let t = s.acquisition.storage in
      let by = sampling_of s.settings in
      sampled_valid (trigger_of s) (triggered_keeps t s.installation.capacity by (sound s h).stored)
      (bits (storage.sets_running t by || storage.trigger_stores t by))
    where
      bits : (b : Bool) → bit_and (cond b storage.bit6 0) status.lia_unused ≡ 0
      bits true = refl
      bits false = refl
