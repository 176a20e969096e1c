-- Before a line: the high course measures the highest frequency that can be taken and has a trigger; then no event
-- leads out from between the two.
use Prim.Native.Nat.{ℕ, ◌*◌, ◌/◌, ◌≤◌, ◌<◌}
use native.Mathlib.Omega.{arith}
use native.Mathlib.Nat.{mul-div-le, le-div_iff_mul-le, lt-div-mul-add, mul_comm}
use mathlib.Core.Bool.{Bool, true, false, cond, and-eq-true_iff, false≢true}
use mathlib.Core.Path.{◌≡◌, refl, sym, ◌∙◌}
use mathlib.Core.List.{List}
use lib.Dec.{eqb}
use borrow.Author.Tests.{leb-true, lt-ltb}
use Rattle.settings.specs.Table.{fmod, harm, tstr, value_of}
use Rattle.settings.specs.Frequency.{is_internal, in_force, detection_of, is_upper, range_at, frequency_in_range}
use Rattle.settings.specs.declared.Settings.{Settings}
use Rattle.settings.proofs.Values.{harm-kept}
use Rattle.storage.specs.Storage.{trigger_starts, is_reset, started_of, readied_of, triggered_of, ticked_of}
use Rattle.storage.specs.declared.Storage.{Storage}
use Rattle.state.specs.State.{pair_of, at_frequency, with_storage, with_registers, sampling_of, range_settled, settled}
use Rattle.state.specs.Storing.{trigger_of, tick_of, sampled_by}
use Rattle.state.specs.Valid.{latest_valid}
use Rattle.state.specs.declared.Acquisition.{Acquisition}
use Rattle.state.specs.declared.State.{State}
use Rattle.event.specs.Event.{latest_taken, takes_frequency, with_external, not_taken, measured_by, bits_raised, sampled_in}
use Rattle.event.specs.Event.{event_of, done, refused}
use Rattle.event.specs.declared.Event.{Event}
use Rattle.event.specs.declared.Event.TheVariants.{Latest, Tick, Trigger, Measured, Raised}
use Rattle.status.specs.Status.{with_lia, may_raise}
use Rattle.extreme_courses.specs.Model.{OfModel}
use Rattle.extreme_courses.specs.declared.Model.{Model}
use Rattle.extreme_courses.specs.Extremes.{measured_high, triggered_high}
use Rattle.demand3.proofs.SameButTimeConstant.{Alike, alike_then, alike_value, alike_sampling, settled-settings}
use Rattle.demand3.proofs.SameButTimeConstant.{settled-acquisition}
use Rattle.demand3.proofs.StorageOrder.{Low, low_ticked, low-event, reset_started, ticked_reset, triggered_reset}
use Rattle.demand3.proofs.Simulation.{Between}
use Rattle.settings.specs.Limits.{detection_limit, band_high}

-- the high course has the highest frequency that can be taken, and so is in the upper range; with TSTR 1 it has begun
pub record Ready (x : Settings) (hi : Acquisition) : Type 0 where
  pub highest : is_internal x ≡ false → (f : ℕ) → value_of x harm * f ≤ detection_limit → f ≤ hi.external
  pub upper : is_internal x ≡ false → is_upper hi.range ≡ true
  pub begun : eqb (value_of x tstr) trigger_starts ≡ true → is_reset hi.storage ≡ false

below-highest : (h f : ℕ) → 1 ≤ h → h * f ≤ detection_limit → f ≤ detection_limit / h
below-highest h f a p = (le-div_iff_mul-le a).1 (rw (mul_comm h f) at p)

-- the highest detection frequency is above the band: the harmonic is less than what lies between
above_band : (h : ℕ) → 1 ≤ h → h ≤ 19999 → band_high < h * (detection_limit / h)
above_band h one most =
    omega (arith, lt-div-mul-add {a = detection_limit} {b = h} one, mul_comm (detection_limit / h) h)

-- ---- the high course

module _ (capacity : ℕ) (x : Settings) (m lo hi : Acquisition) (k : Between capacity x m lo hi) where
  measured : Between capacity x m lo (measured_high x hi)
      × (is_internal x ≡ false → (f : ℕ) → value_of x harm * f ≤ detection_limit → f ≤ (measured_high x hi).external)
      × (is_internal x ≡ false → is_upper (measured_high x hi).range ≡ true)
  unfolding measured_high detection_of in_force range_settled range_at
  measured = by (is_internal x) refl where
    raised : Acquisition
    raised = range_settled x (at_frequency (detection_limit / value_of x harm) hi)

    by : (t : Bool) → is_internal x ≡ t
        → Between capacity x m lo (cond t hi raised)
        × (t ≡ false → (f : ℕ) → value_of x harm * f ≤ detection_limit → f ≤ (cond t hi raised).external)
        × (t ≡ false → is_upper (cond t hi raised).range ≡ true)
    by true e = (k, λ z. absurd (false≢true (sym z)), λ z. absurd (false≢true (sym z)))
    by false e =
        let old : value_of x harm * hi.external ≤ detection_limit = rw e at k.limit in
        let one = (harm-kept x k.kept).0 in
        let over = below-highest (value_of x harm) hi.external one old in
        let upper : is_upper raised.range ≡ true =
        rw (e, lt-ltb band_high _ (above_band (value_of x harm) one (harm-kept x k.kept).1)) refl in (
          record {
            kept = k.kept;
            limit = rw e (mul-div-le detection_limit (value_of x harm));
            external = omega (arith, k.external, over);
            range = λ u. upper;
            low = k.low;
            high = k.high;
          },
          λ z f p. below-highest (value_of x harm) f one p,
          λ z. upper,
        )

  readied_high : (h : Acquisition) (t : Bool) → (is_reset h.storage ≡ true → is_reset m.storage ≡ true)
      → is_reset (cond t (started_of h.storage) h.storage) ≡ true → is_reset m.storage ≡ true
  readied_high h true r e = absurd (false≢true (sym (reset_started h.storage) ∙ e))
  readied_high h false r e = r e

  readied_begun : (h : Acquisition) (t : Bool) → t ≡ true
      → is_reset (cond t (started_of h.storage) h.storage) ≡ false
  readied_begun h true e = reset_started h.storage
  readied_begun h false e = absurd (false≢true e)

  pub event_ready : Between capacity x m lo (triggered_high capacity x (measured_high x hi)) × Ready x
      (triggered_high capacity x (measured_high x hi))
  unfolding triggered_high readied_of sampling_of
  event_ready =
      let h = measured_high x hi in
      let r = measured.0 in
      let reset = triggered_reset capacity (sampling_of x) h.storage in (
        record {
          kept = r.kept;
          limit = r.limit;
          external = r.external;
          range = r.range;
          low = r.low;
          high = λ e. readied_high h (eqb (value_of x tstr) trigger_starts) r.high (sym reset ∙ e);
        },
        record {
          highest = measured.1;
          upper = measured.2;
          begun = λ e. reset ∙ readied_begun h (eqb (value_of x tstr) trigger_starts) e;
        },
      )

-- ---- any course

-- a state of the check's model, with settings alike and an acquisition between the two
pub record Within (model : Model) (x : Settings) (lo hi : Acquisition) (s : State) : Type 0 where
  pub same : OfModel model s.installation
  pub alike : Alike s.settings x
  pub between : Between model.capacity x s.acquisition lo hi

module _ (model : Model) (x : Settings) (lo hi : Acquisition) (ready : Ready x hi) (s : State)
    (k : Within model x lo hi s) where
  abbrev capacity : ℕ
  capacity = model.capacity

  with_storage_lem : (t : Storage) → Low capacity lo.storage t → (is_reset hi.storage ≡ true → is_reset t ≡ true)
      → Between capacity x (with_storage t s.acquisition) lo hi
  with_storage_lem t l r =
      let b = k.between in
      record { kept = b.kept; limit = b.limit; external = b.external; range = b.range; low = l; high = r }

  tick_within : (one two : List ℕ) → Within model x lo hi (event_of Tick s one two).after
  unfolding event_of sampled_in sampled_by tick_of
  tick_within one two =
      let by = sampling_of s.settings in
      record {
        same = k.same;
        alike = k.alike;
        between =
            rw k.same.capacity
            (with_storage_lem (ticked_of s.acquisition.storage capacity by).storage
            (low_ticked capacity by lo.storage s.acquisition.storage k.between.low)
            (λ e. ticked_reset capacity by s.acquisition.storage ∙ k.between.high e));
      }

  readied_other : (t : Bool) → (t ≡ true → is_reset hi.storage ≡ false) → is_reset hi.storage ≡ true
      → is_reset (cond t (started_of s.acquisition.storage) s.acquisition.storage) ≡ true
  readied_other true b e = absurd (false≢true (sym (b refl) ∙ e))
  readied_other false b e = k.between.high e

  trigger_within : (one two : List ℕ) → Within model x lo hi (event_of Trigger s one two).after
  unfolding event_of sampled_in sampled_by trigger_of
  trigger_within one two =
      let by = sampling_of x in
      record {
        same = k.same;
        alike = k.alike;
        between =
            rw (k.same.capacity, alike_sampling s.settings x k.alike)
            (with_storage_lem (triggered_of s.acquisition.storage capacity by).storage
            (low-event capacity by lo.storage s.acquisition.storage k.between.low)
            (λ e. triggered_reset capacity by s.acquisition.storage ∙ begun e));
      }
    where
      begun : is_reset hi.storage ≡ true → is_reset (readied_of s.acquisition.storage (sampling_of x)) ≡ true
      begun e = unfold readied_of sampling_of in readied_other (eqb (value_of x tstr) trigger_starts) ready.begun e

  -- another frequency under the external reference: whatever its range, the high course is in the upper one
  at_between : (f : ℕ) → f ≤ hi.external → is_internal x ≡ false
      → Between capacity x (range_settled s.settings (at_frequency f s.acquisition)) lo hi
  unfolding range_settled
  at_between f most mode =
      let b = k.between in
      record {
        kept = b.kept;
        limit = b.limit;
        external = most;
        range = λ u. ready.upper mode;
        low = b.low;
        high = b.high;
      }

  measured_within : (f : ℕ) → Within model x lo hi (measured_by f s)
  unfolding measured_by
  measured_within f = by (is_internal s.settings) (takes_frequency s f) refl refl where
    taken : is_internal s.settings ≡ false → takes_frequency s f ≡ true → f ≤ hi.external
    taken e t =
        ready.highest (rw (← alike_value k.alike fmod (λ q. omega arith)) e) f
        (rw (← alike_value k.alike harm (λ q. omega arith))
        (leb-true (value_of s.settings harm * f) detection_limit
        (unfold takes_frequency in ((and-eq-true_iff (frequency_in_range f) _).0 t).1)))

    by : (a b : Bool) → is_internal s.settings ≡ a → takes_frequency s f ≡ b
        → Within model x lo hi (cond a s
        (cond b (settled (with_external f s)) (with_registers (with_lia s.registers not_taken) s)))
    by true b p q = k
    by false true p q =
        record {
          same = unfold settled in k.same;
          alike = alike_then (settled-settings (with_external f s)) k.alike;
          between =
              rw (settled-acquisition (with_external f s))
              (at_between f (taken p q) (rw (← alike_value k.alike fmod (λ q. omega arith)) p));
        }
    by false false p q = record { same = k.same; alike = k.alike; between = k.between }

  quiet-within : (b : Bool) (t : State) → Within model x lo hi t
      → Within model x lo hi (cond b (done t) (refused s)).state
  quiet-within true t w = w
  quiet-within false t w = k

  pub event-within : (e : Event) (one two : List ℕ) → Within model x lo hi (event_of e s one two).after
  event-within (Latest w v) one two =
      unfold event_of latest_taken in
      quiet-within (latest_valid (pair_of w v)) _ (record { same = k.same; alike = k.alike; between = k.between })
  event-within Tick one two = tick_within one two
  event-within Trigger one two = trigger_within one two
  event-within (Measured f) one two = unfold event_of in measured_within f
  event-within (Raised lia errors) one two =
      unfold event_of bits_raised in quiet-within (may_raise lia errors) _
      (record { same = k.same; alike = k.alike; between = k.between })
