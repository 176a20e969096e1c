-- A course through a script: what it starts from, what happens before each line, and that no reply room is too small
-- (§13.6); within a line nothing happens (§2.8).
use Rattle.std.specs.Prelude.{ℕ, zero, suc, Bool, true, false, cond, ◌≡◌, List, [], ◌∷◌, leb, length, replicate}
use Rattle.event.specs.declared.Event.{Event}
use Rattle.queue.specs.Queue.{line_limit}
use Rattle.line.specs.Line.{line_of}
use Rattle.outcome.specs.Code.{Outcome, done}
use Rattle.outcome.specs.Answer.{Answer, passed}
use Rattle.module.specs.Start.{installation_known}
use Rattle.lockin.specs.Start.{start_call}
use Rattle.module.specs.Module.{valid_module}
use Rattle.module.specs.declared.Module.{Module}
use Rattle.extreme_courses.specs.Model.{OfModel}
use Rattle.extreme_courses.specs.declared.Model.{Model}
use Rattle.lockin.specs.Calls.{Call, EventCall, line_call, event_call}
use Rattle.invariant.specs.Representable.{Every, Word, Count, ModuleFits, EventFits}

-- §13.6: a module and its two traces: what a call is given, and what it returns or leaves
pub record World : Type 0 where
  pub core : Module
  pub one : List ℕ
  pub two : List ℕ

-- §13.6: a module and traces that there can be: values, words and bytes of the sizes that the machine has for them
pub record WorldFits (w : World) : Type 0 where
  pub core : ModuleFits w.core
  pub one : Every Word w.one
  pub two : Every Word w.two

-- ---- the start

-- §1.2 and §1.3: what the start of a module of the model answers, with any serial number and port that a start takes
abbrev pub StartAnswers : Model → Outcome → Type 0
StartAnswers model o =
    (serial port : ℕ) → installation_known serial port ≡ true
    → (start_call serial port model.capacity model.capacity).outcome ≡ o

-- §1.2: a module of the model can be started
abbrev pub Startable : Model → Type 0
Startable model = StartAnswers model done

-- §1.2: a module as the start makes it, with serial number 0 and port GPIB, and two traces with all words 0
unfoldable pub fresh_world : Model → World
fresh_world model =
    record {
      core = (start_call 0 1 model.capacity model.capacity).after;
      one = replicate model.capacity 0;
      two = replicate model.capacity 0;
    }

-- ---- the calls

-- §2.4 and §13.6: a line handed over whole, in a reply room of a length
abbrev pub line_in : ℕ → List ℕ → World → Call
line_in room line w = line_call room line w.core w.one w.two

-- §13.6: an event
abbrev pub event_in : Event → World → EventCall
event_in e w = event_call e w.core w.one w.two

-- §13.6: what a line leaves, which the next call is given
unfoldable pub after_line : ℕ → List ℕ → World → World
after_line room line w =
    let c = line_in room line w in
    record { core = c.after; one = c.one; two = c.two }

-- §13.6: the same of an event
unfoldable pub after_event : Event → World → World
after_event e w =
    let c = event_in e w in
    record { core = c.after; one = c.one; two = c.two }

-- §13.6: the same of several events in turn
unfoldable pub after_events : List Event → World → World
after_events [] w = w
after_events (e ∷ es) w = after_events es (after_event e w)

-- §13.6: what a course has for a line: the events before it, those that are refused or change nothing among them, and
-- the line's reply room
pub record LineInput : Type 0 where
  pub events : List Event
  pub room : ℕ

-- §13.6: one for each line of a script
abbrev pub LineInputs : List (List ℕ) → Type 0
LineInputs [] = Unit {0}
LineInputs (l ∷ ls) = LineInput × LineInputs ls

-- §13.6: what a line is called with, once its events have happened; §2.8: no event comes within the line
abbrev pub before : LineInput → World → World
before g w = after_events g.events w

-- §13.6: what is left after a line
abbrev pub after : LineInput → List ℕ → World → World
after g line w = after_line g.room line (before g w)

-- §12.4: whether the room is too small for a line that runs: then 4 refuses a command of it and drops the rest
unfoldable pub room_too_small : ℕ → List ℕ → World → Bool
room_too_small room line w =
    cond (leb (length line) line_limit) (line_of room line w.core.state w.one w.two).report.dropped false

-- §13.6: no room is too small
abbrev pub RoomsSuffice : (ls : List (List ℕ)) → LineInputs ls → World → Type 0
RoomsSuffice [] g w = Unit {0}
RoomsSuffice (l ∷ ls) g w =
    (room_too_small g.0.room l (before g.0 w) ≡ false) × RoomsSuffice ls g.1 (after g.0 l w)

-- §13.6: events that there can be, and a room that is the length of a buffer that there can be
pub record InputFits (g : LineInput) : Type 0 where
  pub events : Every EventFits g.events
  pub room : Count g.room

-- §13.6: the same for each line of a script
abbrev pub InputsFit : (ls : List (List ℕ)) → LineInputs ls → Type 0
InputsFit [] g = Unit {0}
InputsFit (l ∷ ls) g = InputFits g.0 × InputsFit ls g.1

-- ---- the course

-- §13.6: a course (a term of document 01): a module that 11 does not refuse (§12.11) and that is of the check's model,
-- and two traces of its capacity; for each line, events and a reply room that is not too small. The module, the traces,
-- the events and the rooms are ones that there can be.
pub record Course (model : Model) (lines : List (List ℕ)) : Type 0 where
  pub start : World
  pub valid : valid_module start.core ≡ true
  pub same : OfModel model start.core.state.installation
  pub first : length start.one ≡ model.capacity
  pub second : length start.two ≡ model.capacity
  pub fits : WorldFits start
  pub inputs : LineInputs lines
  pub inputs_fit : InputsFit lines inputs
  pub rooms : RoomsSuffice lines inputs start

-- §2.7: the answer of the line at an index, counted from 0
unfoldable pub answer_of : (ls : List (List ℕ)) → LineInputs ls → World → ℕ → Answer
answer_of [] g w i = passed
answer_of (l ∷ ls) g w zero = (line_in g.0.room l (before g.0 w)).report.answer
answer_of (l ∷ ls) g w (suc i) = answer_of ls g.1 (after g.0 l w) i

-- §2.7: the answer of line n of a course, counted from 1
unfoldable pub answers : {model : Model} {lines : List (List ℕ)} → Course model lines → ℕ → Answer
answers k zero = passed
answers {model} {lines} k (suc i) = answer_of lines k.inputs k.start i
