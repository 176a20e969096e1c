-- TRIG does what the trigger event does (§7.6).
use Rattle.std.specs.Prelude.{ℕ, Bool, ◌≡◌, List, [], length}
use Rattle.split.specs.Ascii.{bytes}
use Rattle.outcome.specs.Answer.{report_of, passed}
use Rattle.outcome.specs.Code.{done}
use Rattle.command.specs.Parsed.{parsed_of}
use Rattle.state.specs.declared.State.{State}
use Rattle.line.specs.Perform.{command_of}
use Rattle.event.specs.Event.{event_of}
use Rattle.event.specs.declared.Event.TheVariants as event
use Rattle.module.specs.Module.{guard_of}
use Rattle.module.specs.declared.Module.{Module}
use Rattle.lockin.specs.Calls.{Call, line_call, EventCall, event_call}

-- §7.6: a call by a line leaves what a call by an event leaves, and writes nothing
pub record DoesAs (c : Call) (e : EventCall) : Type 0 where
  pub after : c.after ≡ e.after
  pub first : c.one ≡ e.one
  pub second : c.two ≡ e.two
  pub reply : c.out ≡ []

-- §7.6: TRIG anywhere in a line does what the event does; as a line by itself it leaves what the event leaves in every
-- module and with any traces, and both are answered 0 where neither 11 nor 9 refuses the call (§1.4)
pub record TrigIsTrigger : Type 0 where
  pub command : (room : ℕ) (waiting : Bool) (s : State) (one two : List ℕ) →
      command_of room waiting (parsed_of (bytes "TRIG")) s one two ≡ event_of event.Trigger s one two
  pub line : (room : ℕ) (m : Module) (one two : List ℕ) →
      DoesAs (line_call room (bytes "TRIG") m one two) (event_call event.Trigger m one two)
  pub answers : (room : ℕ) (m : Module) (one two : List ℕ) → guard_of m (length one) (length two) ≡ done →
      ((line_call room (bytes "TRIG") m one two).report ≡ report_of passed 0)
      × ((event_call event.Trigger m one two).report ≡ done)
