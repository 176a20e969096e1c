-- Commands, lines and events lead from valid states to valid ones (§12.11).
use Rattle.std.specs.Prelude.{ℕ, Bool, true, ◌≡◌, List, length}
use Rattle.command.specs.Parsed.{parsed_of}
use Rattle.state.specs.State.{start_state}
use Rattle.state.specs.Valid.{installation_valid, valid_state}
use Rattle.state.specs.declared.Installation.{Installation}
use Rattle.state.specs.declared.State.{State}
use Rattle.line.specs.Perform.{command_of}
use Rattle.line.specs.Line.{line_of}
use Rattle.event.specs.Event.{event_of}
use Rattle.event.specs.declared.Event.{Event}

-- §12.11: from a state and its traces to others: a valid state stays valid, what is fixed at start stays, and each
-- trace keeps its length
pub record StatePreserved (before after : State) (one two first second : List ℕ) : Type 0 where
  pub valid : valid_state before ≡ true → valid_state after ≡ true
  pub installation : after.installation ≡ before.installation
  pub first-length : length first ≡ length one
  pub second-length : length second ≡ length two

-- §12.11: a fresh state is valid, and every command, every line and every event leads from a valid state to a valid one
pub record StatesStay : Type 0 where
  pub start : (u : Installation) → installation_valid u ≡ true → valid_state (start_state u) ≡ true
  pub command : (room : ℕ) (waiting : Bool) (text : List ℕ) (s : State) (one two : List ℕ) →
      let e = command_of room waiting (parsed_of text) s one two in
      StatePreserved s e.after one two e.one e.two
  pub line : (room : ℕ) (bytes : List ℕ) (s : State) (one two : List ℕ) →
      let l = line_of room bytes s one two in
      StatePreserved s l.after one two l.one l.two
  pub event : (event : Event) (s : State) (one two : List ℕ) →
      let e = event_of event s one two in
      StatePreserved s e.after one two e.one e.two
