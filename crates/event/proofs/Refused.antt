-- A refused event changes nothing: refusal 6. Assumes nothing.
use Prim.Native.Nat.{ℕ}
use native.Mathlib.Omega.{arith}
use mathlib.Core.Bool.{Bool, true, false, cond}
use mathlib.Core.List.{List}
use mathlib.Core.Path.{◌≡◌, refl}
use Rattle.std.specs.Prelude.{Err}
use Rattle.outcome.specs.declared.Refusal.TheVariants.{BadEvent}
use Rattle.outcome.specs.Code.{Outcome}
use Rattle.outcome.specs.Code as outcome
use Rattle.status.specs.Status.{with_raised, may_raise}
use Rattle.state.specs.State.{pair_of, with_registers, with_latest}
use Rattle.state.specs.Valid.{latest_valid}
use Rattle.state.specs.declared.State.{State}
use Rattle.reply_buffer.specs.After.{After}
use Rattle.event.specs.Event.{done, refused, latest_taken, bits_raised, sampled_in, event_of}
use Rattle.event.specs.declared.Event.{Event}
use Rattle.event.specs.declared.Event.TheVariants.{Latest, Tick, Trigger, Measured, Raised}

-- the state and both traces after an event are those before
pub record Unchanged (e : After State Outcome) (s : State) (one two : List ℕ) : Type 0 where
  pub state : e.after ≡ s
  pub first : e.one ≡ one
  pub second : e.two ≡ two

done_never : {A : Type 0} → ◌≡◌ {A = Outcome} outcome.done (Err BadEvent) → A
done_never p = let z : ◌≡◌ {A = ℕ} 0 1 = cc in absurd (omega arith)

-- what is taken or refused, by a test
either : (t : Bool) (a s : State) → (cond t (done a) (refused s)).outcome ≡ Err BadEvent
    → (cond t (done a) (refused s)).state ≡ s
either true a s p = done_never p
either false a s p = refl

pub event-refused : (e : Event) (s : State) (one two : List ℕ) → (event_of e s one two).report ≡ Err BadEvent
    → Unchanged (event_of e s one two) s one two
unfolding event_of latest_taken bits_raised sampled_in
event-refused (Latest w v) s one two p =
    record {
      state = either (latest_valid (pair_of w v)) (with_latest (pair_of w v) s) s p;
      first = refl;
      second = refl;
    }
event-refused Tick s one two p = done_never p
event-refused Trigger s one two p = done_never p
event-refused (Measured f) s one two p = done_never p
event-refused (Raised lia errors) s one two p =
    record {
      state = either (may_raise lia errors) (with_registers (with_raised s.registers lia errors) s) s p;
      first = refl;
      second = refl;
    }
