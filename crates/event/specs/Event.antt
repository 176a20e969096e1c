-- What an event does to the state and the traces: §7.6, §7.7, §9.1, §9.2, §9.3, §9.4, §9.5 and §12.6.
use Rattle.std.specs.Prelude.{ℕ, ◌*◌, ◌^◌, Bool, cond, ◌&&◌, List, [], Err}
use Rattle.outcome.specs.declared.Refusal.TheVariants.{BadEvent}
use Rattle.outcome.specs.Code.{Outcome}
use Rattle.outcome.specs.Code as outcome
use Rattle.settings.specs.Table.{harm, value_of}
use Rattle.settings.specs.Frequency.{is_internal, within_limit, frequency_in_range}
use Rattle.status.specs.Status.{with_lia, with_raised, may_raise}
use Rattle.storage.specs.declared.StorageStep.{StorageStep}
use Rattle.state.specs.State.{pair_of, at_frequency, with_acquisition, with_registers, with_latest}
use Rattle.state.specs.State.{settled}
use Rattle.state.specs.Storing.{trigger_of, tick_of, sampled_by, stored_in}
use Rattle.state.specs.Valid.{latest_valid}
use Rattle.state.specs.declared.State.{State}
use Rattle.reply_buffer.specs.After.{After, silent}
use Rattle.event.specs.declared.EventEffect.{EventEffect}
use Rattle.event.specs.declared.Event.{Event}
use Rattle.event.specs.declared.Event.TheVariants.{Latest, Tick, Trigger, Measured, Raised}

-- §1.5: what the code gives back of an event
abbrev pub event_effect : After State Outcome → EventEffect
event_effect e = record { state = e.after; outcome = e.report }

-- §1.1: an event that stores nothing
abbrev pub quiet : EventEffect → List ℕ → List ℕ → After State Outcome
quiet h one two = silent h.outcome h.state one two

-- §12.6: a value of the event is not legal: 6, and nothing is done
abbrev pub refused : State → EventEffect
refused s = record { state = s; outcome = Err BadEvent }

-- a state, and nothing refused
abbrev pub done : State → EventEffect
done s = record { state = s; outcome = outcome.done }

-- §9.1: a new latest pair, one legal point for each trace; else 6
unfoldable pub latest_taken : ℕ → ℕ → State → EventEffect
latest_taken w v s = cond (latest_valid (pair_of w v)) (done (with_latest (pair_of w v) s)) (refused s)

-- §9.3: a measured frequency that is in its range and keeps the detection frequency within its limit: asked where the
-- external frequency is in force
unfoldable pub takes_frequency : State → ℕ → Bool
takes_frequency s f = frequency_in_range f && within_limit (value_of s.settings harm * f)

-- §6.1: a state with another external frequency
abbrev pub with_external : ℕ → State → State
with_external f s = with_acquisition (at_frequency f s.acquisition) s

-- §9.3: LIA bit 3
abbrev pub not_taken : ℕ
not_taken = 2 ^ 3

-- §9.2: a measured frequency is ignored in internal mode; §9.3: one that is not taken sets LIA bit 3, and the event
-- still ends as done; §6.5, §6.7 and §6.8: one that is taken may change the frequency range
unfoldable pub measured_by : ℕ → State → State
measured_by f s =
    cond (is_internal s.settings) s
    (cond (takes_frequency s f) (settled (with_external f s))
    (with_registers (with_lia s.registers not_taken) s))

-- §9.4: bits that are raised from outside, where an event may raise them; else 6
unfoldable pub bits_raised : ℕ → ℕ → State → EventEffect
bits_raised lia errors s =
    cond (may_raise lia errors) (done (with_registers (with_raised s.registers lia errors) s)) (refused s)

-- §7.6 and §7.7: a trigger or a tick: the latest pair goes into the traces where it is stored
unfoldable pub sampled_in : StorageStep → State → List ℕ → List ℕ → After State Outcome
sampled_in p s one two =
    record {
      after = sampled_by p s;
      one = stored_in p s s.latest.one one;
      two = stored_in p s s.latest.two two;
      out = [];
      report = outcome.done;
    }

-- §9.1, §9.2, §9.3, §9.4 and §9.5: what each event does
unfoldable pub event_of : Event → State → List ℕ → List ℕ → After State Outcome
event_of (Latest w v) s one two = quiet (latest_taken w v s) one two
event_of Tick s one two = sampled_in (tick_of s) s one two
event_of Trigger s one two = sampled_in (trigger_of s) s one two
event_of (Measured f) s one two = quiet (done (measured_by f s)) one two
event_of (Raised lia errors) s one two = quiet (bits_raised lia errors s) one two
