-- A set that is allowed keeps the detection frequency within its limit. Assumes nothing.
use Prim.Native.Nat.{ℕ}
use mathlib.Core.Path.{◌≡◌, refl, sym}
use mathlib.Core.Bool.{Bool, true, false, cond, ◌&&◌, and-eq-true_iff}
use lib.Dec.{eqb}
use borrow.Author.Tests.{eqb-false}
use Rattle.settings.specs.Table.{fmod, freq, harm, oflt, send, with_value}
use Rattle.settings.specs.Frequency.{is_internal, detection_of, within_limit, time_constant_stands}
use Rattle.settings.specs.declared.Settings.{Settings}
use Rattle.settings.proofs.Values.{detection_other}
use Rattle.storage.specs.Storage.{is_reset}
use Rattle.state.specs.declared.Acquisition.{Acquisition}
use Rattle.precondition.specs.Allowed.{stays_within_limit, value_allowed}

-- the limit is asked of FREQ, HARM and FMOD, and no other entry moves the detection frequency
pub limit_after : (s : Settings) (m : Acquisition) (e v : ℕ) → within_limit (detection_of s m.external) ≡ true →
    value_allowed s m e v ≡ true → within_limit (detection_of (with_value s e v) m.external) ≡ true
unfolding value_allowed stays_within_limit
limit_after s m e v h =
    by (eqb e freq) (eqb e harm) (eqb e fmod)
    (cond (eqb e oflt) (time_constant_stands m.range v)
    (cond (eqb e send) (is_reset m.storage) true))
    refl refl refl
  where
    by : (a b c rest : Bool) → eqb e freq ≡ a → eqb e harm ≡ b → eqb e fmod ≡ c →
        let limit = within_limit (detection_of (with_value s e v) m.external) in
        cond a (is_internal s && limit) (cond b limit (cond c limit rest)) ≡ true → limit ≡ true
    by true b c rest f g i p = ((and-eq-true_iff (is_internal s) _).0 p).1
    by false true c rest f g i p = p
    by false false true rest f g i p = p
    by false false false rest f g i p =
        rw (detection_other s e v (λ q. eqb-false e harm g (sym q)) (λ q. eqb-false e fmod i (sym q))
        (λ q. eqb-false e freq f (sym q)) m.external) h
