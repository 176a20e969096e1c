-- Commands, lines and events lead from valid states to valid ones. Assumes nothing.
use Prim.Native.Nat.{ℕ, ◌-◌}
use mathlib.Core.Path.{refl, ◌∙◌}
use mathlib.Core.Bool.{Bool, true, false, cond}
use mathlib.Core.List.{List, [], ◌∷◌}
use lib.ListN.{length}
use Rattle.command.specs.Parsed.{parsed_of}
use Rattle.state.specs.State.{with_error_bit}
use Rattle.state.specs.declared.State.{State}
use Rattle.state.proofs.Sound.{start-valid}
use Rattle.effect.proofs.After.{after-installation}
use Rattle.line.specs.Perform.{Effect, storage_step_by, done_by, command_of}
use Rattle.line.specs.Line.{Line, waits, after_of, after_command, run_all, start_line, line_of}
use Rattle.line_text.specs.Texts.{texts_of}
use Rattle.event.proofs.Preserved.{event-stays, event-installation, event-first, event-second, stored-length}
use Rattle.invariant.specs.States.{StatePreserved, StatesStay}
use Rattle.invariant.proofs.Storable.{parsed_storable}
use Rattle.invariant.proofs.Change.{after-stays, marked-stays}
use Rattle.invariant.proofs.Command.{command_by}

-- ---- commands

command-stays : (room : ℕ) (waiting : Bool) (text : List ℕ) (s : State) (one two : List ℕ) →
    let e = command_of room waiting (parsed_of text) s one two in
    StatePreserved s e.after one two e.one e.two
unfolding done_by with_error_bit
command-stays room waiting text s one two =
    command_by room waiting s one two (λ (e : Effect). StatePreserved s e.after one two e.one e.two)
    (record { valid = λ h. h; installation = refl; first-length = refl; second-length = refl })
    (λ r n. record { valid = λ h. marked-stays s h r; installation = refl; first-length = refl; second-length = refl })
    (λ kind k p.
    record {
      valid = λ h. after-stays s h kind k p;
      installation = after-installation kind s;
      first-length = stored-length (storage_step_by kind s) s s.latest.one one;
      second-length = stored-length (storage_step_by kind s) s s.latest.two two;
    })
    (parsed_of text) (parsed_storable text)

-- ---- lines

both_stay : (a b c : State) (one two one' two' one'' two'' : List ℕ) → StatePreserved a b one two one' two' →
    StatePreserved b c one' two' one'' two'' → StatePreserved a c one two one'' two''
both_stay a b c one two one' two' one'' two'' p q =
    record {
      valid = λ h. q.valid (p.valid h);
      installation = q.installation ∙ p.installation;
      first-length = q.first-length ∙ p.first-length;
      second-length = q.second-length ∙ p.second-length;
    }

step_stays : (room : ℕ) (text : List ℕ) (l : Line) →
    let n = after_command room text l in
    StatePreserved l.after n.after l.one l.two n.one n.two
unfolding after_command after_of
step_stays room text l = command-stays (room - length l.out) (waits l.out) text l.after l.one l.two

run-stays : (room : ℕ) (texts : List (List ℕ)) (l : Line) →
    let n = run_all room texts l in
    StatePreserved l.after n.after l.one l.two n.one n.two
unfolding run_all
run-stays room [] l = record { valid = λ h. h; installation = refl; first-length = refl; second-length = refl }
run-stays room (text ∷ more) l =
    by (after_command room text l).report.dropped
    (both_stay l.after next.after last.after l.one l.two next.one next.two last.one last.two
    (step_stays room text l) (run-stays room more next))
  where
    next : Line
    next = after_command room text l

    last : Line
    last = run_all room more next

    by : (t : Bool) → StatePreserved l.after last.after l.one l.two last.one last.two →
        let n = cond t next last in
        StatePreserved l.after n.after l.one l.two n.one n.two
    by true p = step_stays room text l
    by false p = p

pub states_stay : StatesStay
unfolding line_of
states_stay =
    record {
      start = start-valid;
      command = command-stays;
      line = λ room bytes s one two. run-stays room (texts_of bytes) (start_line s one two);
      event = λ e s one two.
          record {
            valid = event-stays e s one two;
            installation = event-installation e s one two;
            first-length = event-first e s one two;
            second-length = event-second e s one two;
          };
    }
