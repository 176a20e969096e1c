-- Settings that are alike up to the time constant, which decides no refusal: commands keep them alike, and no rule
-- tells them apart.
use Prim.Native.Nat.{ℕ}
use native.Mathlib.Omega.{arith}
use mathlib.Core.Bool.{Bool, true, false, cond}
use mathlib.Core.Path.{◌≡◌, refl, sym, ap, ◌∙◌}
use lib.Dec.{eqb}
use lib.Seq.{set-set, set_comm, get_or-set_other}
use borrow.Author.Tests.{eqb-true, eqb-false}
use Rattle.settings.specs.Table.{fmod, freq, harm, oflt, srat, send, tstr, start_settings, next_entry, value_of, with_value}
use Rattle.settings.specs.Frequency.{detection_of}
use Rattle.settings.specs.declared.Settings.{Settings}
use Rattle.settings.proofs.Values.{detection_by}
use Rattle.command.specs.declared.SetArgument.{SetArgument}
use Rattle.command.specs.declared.SetArgument.TheVariants as set
use Rattle.command.specs.declared.Kind.{Kind}
use Rattle.command.specs.declared.Kind.TheVariants.{Set, Query, Act}
use Rattle.state.specs.State.{sampling_of, range_settled, settled}
use Rattle.state.specs.declared.Acquisition.{Acquisition}
use Rattle.state.specs.declared.State.{State}
use Rattle.precondition.specs.Allowed.{stays_within_limit, value_allowed, set_allowed, is_allowed}
use Rattle.effect.specs.Effect.{with_pair, set_in, is_rst, restored_by, settings_after, acquisition_by, acquisition_after}
use Rattle.effect.specs.Effect.{state_after}
use Rattle.effect.proofs.After.{act_settings}
pub use Rattle.effect.proofs.After.{after-acquisition, after-installation}

pub record Alike (s t : Settings) : Type 0 where
  pub rest : with_value s oflt 0 ≡ with_value t oflt 0

pub alike_self : (s : Settings) → Alike s s
alike_self s = record { rest = refl }

pub alike_then : {s t u : Settings} → Alike s t → Alike t u → Alike s u
alike_then p q = record { rest = p.rest ∙ q.rest }

-- another time constant
alike_constant : (s : Settings) (v : ℕ) → Alike (with_value s oflt v) s
alike_constant s v = record { rest = rw (set-set s.values oflt v 0) refl }

pub alike_value : {s t : Settings} → Alike s t → (e : ℕ) → (e ≡ oflt → ⊥) → value_of s e ≡ value_of t e
alike_value {s} {t} p e n =
    sym (get_or-set_other s.values oflt e 0 0 n) ∙
    (ap (λ (x : Settings). value_of x e) p.rest ∙ get_or-set_other t.values oflt e 0 0 n)

-- the same value at the same entry
alike_with : (s t : Settings) → Alike s t → (e v : ℕ) → Alike (with_value s e v) (with_value t e v)
alike_with s t p e v = by (eqb e oflt) refl where
  by : (b : Bool) → eqb e oflt ≡ b → Alike (with_value s e v) (with_value t e v)
  by true q =
      let z = eqb-true e oflt q in
      rw z (alike_then (alike_constant s v) (alike_then p (record { rest = sym (alike_constant t v).rest })))
  by false q =
      let n = eqb-false e oflt q in
      record {
        rest = rw (set_comm s.values e oflt v 0 n, set_comm t.values e oflt v 0 n)
            (ap (λ (x : Settings). with_value x e v) p.rest);
      }

-- ---- what no rule reads

module _ (s t : Settings) (p : Alike s t) where
  alike_detection : (f : ℕ) → detection_of s f ≡ detection_of t f
  alike_detection =
      detection_by s t (alike_value p harm (λ e. omega arith)) (alike_value p fmod (λ e. omega arith))
      (alike_value p freq (λ e. omega arith))

  pub alike_sampling : sampling_of s ≡ sampling_of t
  unfolding sampling_of
  alike_sampling =
      rw (
        alike_value p srat (λ e. omega arith),
        alike_value p send (λ e. omega arith),
        alike_value p tstr
            (λ e. omega arith),
      ) refl

-- ---- commands

module _ (s t : Settings) (p : Alike s t) where
  alike_limit : (m : Acquisition) (e v : ℕ) → stays_within_limit s m e v ≡ stays_within_limit t m e v
  unfolding stays_within_limit
  alike_limit m e v = rw (alike_detection (with_value s e v) (with_value t e v) (alike_with s t p e v) m.external) refl

  alike_set : (m : Acquisition) (a : SetArgument) → set_allowed s m a ≡ set_allowed t m a
  unfolding set_allowed value_allowed
  alike_set m (set.Value e v) =
      rw (alike_limit m e v, alike_value p fmod (λ q. omega arith)) refl
  alike_set m (set.Pair e v w) = refl
  alike_set m (set.Enable r v) = refl
  alike_set m (set.EnableBit r i v) = refl

  pub alike_allows : (m : Acquisition) (kind : Kind) → is_allowed s m kind ≡ is_allowed t m kind
  unfolding is_allowed
  alike_allows m (Set a) = alike_set m a
  alike_allows m (Query q) = refl
  alike_allows m (Act a) = refl

  restored : (b : Bool) → Alike (cond b start_settings s) (cond b start_settings t)
  restored true = alike_self start_settings
  restored false = p

  pub alike_after : (kind : Kind) → Alike (settings_after kind s) (settings_after kind t)
  unfolding settings_after set_in with_pair restored_by
  alike_after (Set (set.Value e v)) = alike_with s t p e v
  alike_after (Set (set.Pair e v w)) = alike_with (with_value s e v) (with_value t e v) (alike_with s t p e v)
      (next_entry e) w
  alike_after (Set (set.Enable r v)) = p
  alike_after (Set (set.EnableBit r i v)) = p
  alike_after (Query q) = p
  alike_after (Act a) = restored (is_rst a)

  pub alike_settled : (m : Acquisition) → range_settled s m ≡ range_settled t m
  unfolding range_settled
  alike_settled m = rw (alike_detection s t p m.external) refl

  pub alike_acquisition : (kind : Kind) (m : Acquisition) (capacity : ℕ)
      → acquisition_after kind s m capacity ≡ acquisition_after kind t m capacity
  unfolding acquisition_after acquisition_by
  alike_acquisition (Set a) m capacity = alike_settled m
  alike_acquisition (Query q) m capacity = refl
  alike_acquisition (Act a) m capacity = rw (alike_sampling s t p) refl

-- ---- a state after a command that is not refused

pub settled-settings : (s : State) → Alike (settled s).settings s.settings
unfolding settled
settled-settings s = alike_constant s.settings _

pub settled-acquisition : (s : State) → (settled s).acquisition ≡ range_settled s.settings s.acquisition
unfolding settled
settled-acquisition s = refl

pub after-settings : (kind : Kind) (s : State) → Alike (state_after kind s).settings (settings_after kind s.settings)
unfolding state_after settings_after
after-settings (Set a) s = settled-settings _
after-settings (Query q) s = alike_self _
after-settings (Act a) s = record { rest = ap (λ (x : Settings). with_value x oflt 0) (act_settings a s) }
