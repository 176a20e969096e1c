-- A course's acquisition lies between those of the low and the high course, under the settings that all have: one
-- command keeps it so.
use Prim.Native.Nat.{ℕ, ◌+◌, ◌≤◌}
use native.Mathlib.Omega.{arith}
use native.Mathlib.Nat.{mul-le-mul_left}
use mathlib.Core.Bool.{Bool, true, false, cond, not, ◌&&◌, ◌||◌, and-eq-true_iff, false≢true}
use mathlib.Core.Path.{◌≡◌, refl, sym, ap, ◌∙◌}
use lib.Dec.{leb, eqb}
use borrow.Author.Tests.{leb-true, le-leb}
use Rattle.settings.specs.Table.{fmod, freq, harm, oflt, send, start_settings, next_entry, value_of, with_value}
use Rattle.settings.specs.Frequency.{is_internal, in_force, detection_of, within_limit, is_upper, time_constant_stands}
use Rattle.settings.specs.Valid.{values_valid}
use Rattle.settings.specs.declared.Settings.{Settings}
use Rattle.settings.specs.declared.FrequencyRange.{FrequencyRange}
use Rattle.settings.specs.declared.FrequencyRange.TheVariants.{Upper, Lower}
use Rattle.settings.proofs.Invariant.{with_keeps}
use Rattle.settings.proofs.Stands.{range_mono}
use Rattle.settings.proofs.Start.{start-valid}
use Rattle.settings.proofs.Values.{detection_other}
use Rattle.storage.specs.Storage.{trigger_starts, is_reset, emptied_storage, started_of, paused_of, readied_of, triggered_of}
use Rattle.storage.specs.Storage.{holds_of}
use Rattle.storage.specs.declared.Storage.{Storage}
use Rattle.storage.specs.declared.Sampling.{Sampling}
use Rattle.mnemonic.specs.declared.Action.{Action}
use Rattle.mnemonic.specs.declared.Action.TheVariants.{Reset, Clear, Start, Pause, Empty, Trigger}
use Rattle.command.specs.declared.SetArgument.{SetArgument}
use Rattle.command.specs.declared.SetArgument.TheVariants as set
use Rattle.command.specs.declared.QueryArgument.{QueryArgument}
use Rattle.command.specs.declared.QueryArgument.TheVariants as query
use Rattle.command.specs.declared.Kind.{Kind}
use Rattle.command.specs.declared.Kind.TheVariants.{Set, Query, Act}
use Rattle.state.specs.State.{with_storage, sampling_of, start_acquisition, range_settled}
use Rattle.state.specs.declared.Acquisition.{Acquisition}
use Rattle.state.proofs.Sound.{tuning}
use Rattle.precondition.specs.Allowed.{stays_within_limit, value_allowed, set_allowed, query_allowed, is_allowed}
use Rattle.precondition.proofs.Limit.{limit_after}
use Rattle.effect.specs.Effect.{with_pair, set_in, restored_by, settings_after, storage_by, restarted_by, acquisition_by}
use Rattle.effect.specs.Effect.{acquisition_after}
use Rattle.invariant.proofs.Storable.{Storable}
use Rattle.demand3.proofs.StorageOrder.{Low, low_emptied, low-started, low_paused, low_triggered, reset_started}
use Rattle.demand3.proofs.StorageOrder.{reset_paused, triggered_reset}
use Rattle.settings.specs.Limits.{detection_limit, upper_constant_most}

-- the acquisition m, that of the low course and that of the high one, under the settings x
pub record Between (capacity : ℕ) (x : Settings) (m lo hi : Acquisition) : Type 0 where
  pub kept : values_valid x ≡ true
  pub limit : detection_of x hi.external ≤ detection_limit
  pub external : m.external ≤ hi.external
  pub range : is_upper m.range ≡ true → is_upper hi.range ≡ true
  pub low : Low capacity lo.storage m.storage
  pub high : is_reset hi.storage ≡ true → is_reset m.storage ≡ true

-- ---- frequencies

cond_mono : (t : Bool) (f a b : ℕ) → a ≤ b → cond t f a ≤ cond t f b
cond_mono true f a b h = omega arith
cond_mono false f a b h = h

detection_mono : (x : Settings) (f g : ℕ) → f ≤ g → detection_of x f ≤ detection_of x g
unfolding detection_of in_force
detection_mono x f g h = mul-le-mul_left (value_of x harm) (cond_mono (is_internal x) (value_of x freq) f g h)

within_mono : (x : Settings) (f g : ℕ) → f ≤ g → within_limit (detection_of x g) ≡ true
    → within_limit (detection_of x f) ≡ true
within_mono x f g h e = le-leb (detection_of x f) detection_limit
    (omega (arith, detection_mono x f g h, leb-true (detection_of x g) detection_limit e))

stands_mono : (t : Bool) (r s : FrequencyRange) → (is_upper r ≡ true → is_upper s ≡ true) →
    t || not (is_upper s) ≡ true → t || not (is_upper r) ≡ true
stands_mono true r s h e = refl
stands_mono false Lower s h e = refl
stands_mono false Upper s h e = absurd (false≢true (sym (ap not (h refl)) ∙ e))

-- ---- a setting

module _ (x : Settings) (m hi : Acquisition) (e v : ℕ) where
  -- what the high course is not refused, no other one is
  value_allows : m.external ≤ hi.external → (is_upper m.range ≡ true → is_upper hi.range ≡ true)
      → (is_reset hi.storage ≡ true → is_reset m.storage ≡ true) → value_allowed x hi e v ≡ true
      → value_allowed x m e v ≡ true
  unfolding value_allowed stays_within_limit
  value_allows f u r = by (eqb e freq) (eqb e harm) (eqb e fmod) (eqb e oflt) (eqb e send) where
    limited : within_limit (detection_of (with_value x e v) hi.external) ≡ true
        → within_limit (detection_of (with_value x e v) m.external) ≡ true
    limited = within_mono (with_value x e v) m.external hi.external f

    by : (a b c d s : Bool)
        → cond a (is_internal x && within_limit (detection_of (with_value x e v) hi.external))
        (cond b (within_limit (detection_of (with_value x e v) hi.external))
        (cond c (within_limit (detection_of (with_value x e v) hi.external))
        (cond d (time_constant_stands hi.range v) (cond s (is_reset hi.storage) true)))) ≡ true
        → cond a (is_internal x && within_limit (detection_of (with_value x e v) m.external))
        (cond b (within_limit (detection_of (with_value x e v) m.external))
        (cond c (within_limit (detection_of (with_value x e v) m.external))
        (cond d (time_constant_stands m.range v) (cond s (is_reset m.storage) true)))) ≡ true
    by true b c d s p =
        let q = (and-eq-true_iff (is_internal x) (within_limit (detection_of (with_value x e v) hi.external))).0 p in
        (and-eq-true_iff (is_internal x) (within_limit (detection_of (with_value x e v) m.external))).1
        (q.0, limited q.1)
    by false true c d s p = limited p
    by false false true d s p = limited p
    by false false false true s p = stands_mono (leb v upper_constant_most) m.range hi.range u p
    by false false false false true p = r p
    by false false false false false p = refl

-- ---- commands

-- a command that neither the low nor the high course refuses
abbrev pub Simulates : ℕ → Settings → (m lo hi : Acquisition) → Kind → Type 0
Simulates capacity x m lo hi kind =
    let y = settings_after kind x in
    (is_allowed x m kind ≡ true)
    × Between capacity y (acquisition_after kind y m capacity) (acquisition_after kind y lo capacity)
    (acquisition_after kind y hi capacity)

start_between : (capacity : ℕ) → Between capacity start_settings start_acquisition start_acquisition start_acquisition
start_between capacity =
    let k = (tuning start_settings start_acquisition start-valid).0 in
    record {
      kept = k.values;
      limit = leb-true _ _ k.limit;
      external = omega arith;
      range = λ e. e;
      low = low_emptied capacity;
      high = λ e. e;
    }

-- *RST in any state
pub reset_goes : (capacity : ℕ) (x : Settings) (m lo hi : Acquisition) → Simulates capacity x m lo hi (Act Reset)
unfolding is_allowed settings_after restored_by acquisition_after acquisition_by restarted_by storage_by
reset_goes capacity x m lo hi = (refl, start_between capacity)

module _ (capacity : ℕ) (x : Settings) (m lo hi : Acquisition) (k : Between capacity x m lo hi) where
  -- other settings, at which the high course keeps the limit: each course in the range at its frequency
  with-settings : (y : Settings) → values_valid y ≡ true → detection_of y hi.external ≤ detection_limit
      → Between capacity y (range_settled y m) (range_settled y lo) (range_settled y hi)
  unfolding range_settled
  with-settings y p q =
      record {
        kept = p;
        limit = q;
        external = k.external;
        range = range_mono _ _ m.range hi.range (detection_mono y m.external hi.external k.external)
            k.range;
        low = k.low;
        high = k.high;
      }

  with_storage_lem : (m' lo' hi' : Storage) → Low capacity lo' m' → (is_reset hi' ≡ true → is_reset m' ≡ true)
      → Between capacity x (with_storage m' m) (with_storage lo' lo) (with_storage hi' hi)
  with_storage_lem m' lo' hi' l r = record
      { kept = k.kept; limit = k.limit; external = k.external; range = k.range; low = l; high = r }

  set_goes : (a : SetArgument) → Storable (Set a) → is_allowed x hi (Set a) ≡ true → Simulates capacity x m lo hi (Set a)
  unfolding is_allowed set_allowed settings_after set_in with_pair acquisition_after
  set_goes (set.Value e v) s h = (
    value_allows x m hi e v k.external k.range k.high h,
    with-settings (with_value x e v) (with_keeps x e v k.kept s)
        (leb-true _ _ (limit_after x hi e v (le-leb _ _ k.limit) h)),
  )
  set_goes (set.Pair e v w) s h = (
    refl,
    with-settings (with_value (with_value x e v) (next_entry e) w)
        (with_keeps (with_value x e v) (next_entry e) w (with_keeps x e v k.kept s.first) s.second)
        (rw (
          detection_other (with_value x e v) (next_entry e) w (λ q. omega arith) (λ q. omega arith) (λ q. omega arith)
              hi.external,
          detection_other x e v (λ q. omega arith) (λ q. omega arith) (λ q. omega arith) hi.external,
        )
        k.limit),
  )
  set_goes (set.Enable r v) s h = (refl, with-settings x k.kept k.limit)
  set_goes (set.EnableBit r i v) s h = (refl, with-settings x k.kept k.limit)

  query_goes : (q : QueryArgument) → is_allowed x lo (Query q) ≡ true → Simulates capacity x m lo hi (Query q)
  unfolding is_allowed query_allowed settings_after acquisition_after holds_of
  query_goes (query.Trace form t bin count) h = (
    le-leb (bin + count) m.storage.held
        (omega (arith, leb-true (bin + count) lo.storage.held h, k.low.fewer)),
    k,
  )
  query_goes (query.Value e) h = (refl, k)
  query_goes (query.Pair e) h = (refl, k)
  query_goes (query.Enable r) h = (refl, k)
  query_goes (query.EnableBit r i) h = (refl, k)
  query_goes (query.Status r) h = (refl, k)
  query_goes (query.StatusBit r i) h = (refl, k)
  query_goes query.Identity h = (refl, k)
  query_goes query.Points h = (refl, k)

  readied : (t : Bool) → is_reset (cond t (started_of hi.storage) hi.storage) ≡ true
      → is_reset (cond t (started_of m.storage) m.storage) ≡ true
  readied true e = absurd (false≢true (sym (reset_started hi.storage) ∙ e))
  readied false e = k.high e

  triggered : (by : Sampling) → is_reset (triggered_of hi.storage capacity by).storage ≡ true
      → is_reset (triggered_of m.storage capacity by).storage ≡ true
  unfolding readied_of
  triggered by e =
      triggered_reset capacity by m.storage
      ∙ readied (eqb by.start trigger_starts) (sym (triggered_reset capacity by hi.storage) ∙ e)

  act_goes : (a : Action) → Simulates capacity x m lo hi (Act a)
  unfolding is_allowed settings_after restored_by acquisition_after acquisition_by restarted_by storage_by
  act_goes Reset = (refl, start_between capacity)
  act_goes Clear = (refl, k)
  act_goes Start = (
    refl,
    with_storage_lem (started_of m.storage) (started_of lo.storage) (started_of hi.storage)
        (low-started capacity lo.storage m.storage k.low)
        (λ e. absurd (false≢true (sym (reset_started hi.storage) ∙ e))),
  )
  act_goes Pause = (
    refl,
    with_storage_lem (paused_of m.storage) (paused_of lo.storage) (paused_of hi.storage)
        (low_paused capacity lo.storage m.storage k.low)
        (λ e. reset_paused m.storage ∙ k.high (sym (reset_paused hi.storage) ∙ e)),
  )
  act_goes Empty = (refl, with_storage_lem emptied_storage emptied_storage emptied_storage (low_emptied capacity) (λ e. e))
  act_goes Trigger = (
    refl,
    with_storage_lem (triggered_of m.storage capacity (sampling_of x)).storage
        (triggered_of lo.storage capacity (sampling_of x)).storage
        (triggered_of hi.storage capacity (sampling_of x)).storage
        (low_triggered capacity (sampling_of x) lo.storage m.storage k.low)
        (triggered (sampling_of x)),
  )

  pub command_goes : (kind : Kind) → Storable kind → is_allowed x lo kind ≡ true → is_allowed x hi kind ≡ true
      → Simulates capacity x m lo hi kind
  command_goes (Set a) s l h = set_goes a s h
  command_goes (Query q) s l h = query_goes q l
  command_goes (Act a) s l h = act_goes a
