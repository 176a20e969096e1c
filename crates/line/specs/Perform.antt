-- What one command does to the state, the traces and the reply: §1.1, §2.6, §12.1, §12.2, §12.3, §12.4 and §12.12.
use Rattle.std.specs.Prelude.{ℕ, Bool, cond, List, Err, Some, None, Ok}
use Rattle.outcome.specs.declared.Refusal.{Refusal}
use Rattle.outcome.specs.declared.Refusal.TheVariants.{NotAllowed, NoRoom}
use Rattle.outcome.specs.Code.{Outcome, done}
use Rattle.command.specs.declared.Kind.{Kind}
use Rattle.command.specs.Parsed.{Parsed}
use Rattle.storage.specs.declared.StorageStep.{StorageStep}
use Rattle.state.specs.State.{with_error_bit}
use Rattle.state.specs.Storing.{stored_in}
use Rattle.state.specs.declared.State.{State}
use Rattle.precondition.specs.Allowed.{is_allowed}
use Rattle.effect.specs.Effect.{storage_after, state_after}
use Rattle.reply_buffer.specs.Buffer.{fits_in}
use Rattle.reply_buffer.specs.After.{After, silent}
use Rattle.reply.specs.Reply.{reply_of}

-- §1.1: what a command leaves, and whether it was refused
abbrev pub Effect : Type 0
Effect = After State Outcome

-- §12.1, §12.2, §12.3 and §12.4: a refused command: its error bit, and nothing else
abbrev pub refused_by : Refusal → State → List ℕ → List ℕ → Effect
refused_by r s one two = silent (Err r) (with_error_bit r s) one two

-- §2.6: an empty command, which does nothing
abbrev pub nothing : State → List ℕ → List ℕ → Effect
nothing s one two = silent done s one two

-- §7.2 and §7.6: what a command does to storage
abbrev pub storage_step_by : Kind → State → StorageStep
storage_step_by kind s = storage_after kind s.settings s.acquisition s.installation.capacity

-- §1.1: a command that is not refused; §7.6: where it is TRIG it may store the latest pair
unfoldable pub done_by : Kind → List ℕ → State → List ℕ → List ℕ → Effect
done_by kind reply s one two =
    record {
      after = state_after kind s;
      one = stored_in (storage_step_by kind s) s s.latest.one one;
      two = stored_in (storage_step_by kind s) s s.latest.two two;
      out = reply;
      report = done;
    }

-- §12.12: 3 comes first, where the state does not allow the command (§12.3); then 4, where its reply does not fit
-- (§12.4)
unfoldable pub performed : ℕ → Bool → Kind → State → List ℕ → List ℕ → Effect
performed room waiting kind s one two =
    let reply = reply_of kind s waiting one two in
    cond (is_allowed s.settings s.acquisition kind)
    (cond (fits_in reply room) (done_by kind reply s one two) (refused_by NoRoom s one two))
    (refused_by NotAllowed s one two)

-- §12.12: a command's text as it is read: refused by 1 or 2, empty, or performed
unfoldable pub command_of : ℕ → Bool → Parsed → State → List ℕ → List ℕ → Effect
command_of room waiting (Ok None) s one two = nothing s one two
command_of room waiting (Err r) s one two = refused_by r s one two
command_of room waiting (Ok (Some c)) s one two = performed room waiting c.kind s one two
