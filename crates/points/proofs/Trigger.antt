-- TRIG does what the trigger event does. Assumes nothing.
use Prim.Native.Nat.{ℕ}
use native.Mathlib.Omega.{arith}
use mathlib.Core.Bool.{Bool, false}
use mathlib.Core.List.{List, []}
use mathlib.Core.Path.{◌≡◌, refl, ◌∙◌}
use lib.ListN.{length}
use borrow.Author.Tests.{le-leb}
use Rattle.std.specs.Prelude.{Ok, Err}
use Rattle.split.specs.Ascii.{bytes}
use Rattle.split.specs.Divide.{parts, on_head}
use Rattle.line_text.specs.Clean.{cleaned}
use Rattle.number.specs.Number.{begins}
use Rattle.outcome.specs.Answer.{first_of, drops}
use Rattle.outcome.specs.declared.Refusal.{Refusal}
use Rattle.outcome.specs.Code.{Outcome, done}
use Rattle.mnemonic.specs.Names.{meaning_in}
use Rattle.mnemonic.specs.declared.Action.TheVariants.{Trigger}
use Rattle.command.specs.Arguments.{arguments}
use Rattle.command.specs.Parsed.{parsed_of, alone, set_with}
use Rattle.command.specs.declared.Kind.TheVariants.{Act}
use Rattle.state.specs.Storing.{trigger_of}
use Rattle.state.specs.declared.State.{State}
use Rattle.precondition.specs.Allowed.{is_allowed}
use Rattle.effect.specs.Effect.{storage_by, storage_after, state_after}
use Rattle.reply_buffer.specs.Buffer.{fits_in}
use Rattle.reply.specs.Reply.{reply_of}
use Rattle.line.specs.Perform.{done_by, performed, command_of}
use Rattle.line.specs.Line.{start_line, after_of}
use Rattle.event.specs.Event.{sampled_in, event_of}
use Rattle.event.specs.declared.Event.TheVariants as event
use Rattle.module.specs.Module.{guard_of}
use Rattle.module.specs.declared.Module.{Module}
use Rattle.lockin.specs.Calls.{with_queue, guarded, line_ran, line_call, event_call}
use Rattle.points.specs.Trigger.{DoesAs, TrigIsTrigger}
use Rattle.invariant.proofs.OneCommand.{Says, said_call}

says_trig : Says (bytes "TRIG") (Act Trigger)
unfolding cleaned parts on_head parsed_of begins meaning_in set_with arguments alone
says_trig = record { short = omega arith; kept = refl; single = refl; read = refl }

-- what TRIG does is what the trigger event does
trig_done : (s : State) (one two : List ℕ) → done_by (Act Trigger) [] s one two ≡ event_of event.Trigger s one two
unfolding done_by state_after storage_after storage_by event_of sampled_in trigger_of
trig_done s one two = refl

trig_performed : (room : ℕ) (waiting : Bool) (s : State) (one two : List ℕ) →
    performed room waiting (Act Trigger) s one two ≡ event_of event.Trigger s one two
unfolding performed is_allowed reply_of fits_in
trig_performed room waiting s one two = rw (le-leb 0 room (omega arith)) (trig_done s one two)

trig_command : (room : ℕ) (waiting : Bool) (s : State) (one two : List ℕ) →
    command_of room waiting (parsed_of (bytes "TRIG")) s one two ≡ event_of event.Trigger s one two
unfolding command_of
trig_command room waiting s one two = rw says_trig.read (trig_performed room waiting s one two)

-- the line's call where neither 11 nor 9 refuses it
trig_call : (room : ℕ) (m : Module) (one two : List ℕ) → guard_of m (length one) (length two) ≡ done →
    line_call room (bytes "TRIG") m one two
    ≡ with_queue m.queue (line_ran (after_of (start_line m.state one two) (event_of event.Trigger m.state one two)))
trig_call room m one two e =
    said_call (bytes "TRIG") (Act Trigger) says_trig room m one two e
    ∙ rw (trig_performed room false m.state one two)

module _ (room : ℕ) (m : Module) (one two : List ℕ) where
  both-done : guard_of m (length one) (length two) ≡ done →
      DoesAs (line_call room (bytes "TRIG") m one two) (event_call event.Trigger m one two)
  unfolding event_call guarded after_of event_of sampled_in
  both-done e = rw (trig_call room m one two e, e) (record { after = refl; first = refl; second = refl; reply = refl })

  both-refused : (r : Refusal) → guard_of m (length one) (length two) ≡ Err r →
      DoesAs (line_call room (bytes "TRIG") m one two) (event_call event.Trigger m one two)
  unfolding line_call guarded event_call
  both-refused r e = rw e (record { after = refl; first = refl; second = refl; reply = refl })

  does_as : (o : Outcome) → guard_of m (length one) (length two) ≡ o →
      DoesAs (line_call room (bytes "TRIG") m one two) (event_call event.Trigger m one two)
  does_as (Ok _) e = both-done e
  does_as (Err r) e = both-refused r e

pub trig_is_trigger : TrigIsTrigger
unfolding event_call guarded event_of sampled_in after_of first_of drops
trig_is_trigger =
    record {
      command = trig_command;
      line = λ room m one two. does_as room m one two (guard_of m (length one) (length two)) refl;
      answers = λ room m one two e. (rw (trig_call room m one two e), rw e);
    }
