-- The points stored, over every call: §7.2, §7.3, §7.4, §7.6, §7.7, §7.9, §8.1, §8.4 and §11.2.
-- What each call does to the history of stored pairs is said here. The module and its traces hold the last pairs of it
-- after every call, and SPTS?, TRCL? and TRCB? reply them.
use Rattle.std.specs.Prelude.{ℕ, ◌+◌, ◌-◌, ◌%◌, ◌≤◌, ◌<◌, min, Bool, cond, ◌≡◌, leb, eqb, Ok, Err, Some, None}
use Rattle.std.specs.Prelude.{List, [], ◌∷◌, ◌++◌, length, get_or, take, drop}
use Rattle.split.specs.Ascii.{bytes}
use Rattle.line_text.specs.Texts.{texts_of}
use Rattle.format.specs.Text.{plain}
use Rattle.point.specs.Bytes.{little_endian}
use Rattle.outcome.specs.declared.Refusal.TheVariants.{NotAllowed}
use Rattle.outcome.specs.Code.{Outcome, done}
use Rattle.outcome.specs.Answer.{refused_at}
use Rattle.mnemonic.specs.declared.Form.{Form}
use Rattle.mnemonic.specs.declared.Form.TheVariants.{Words, Floats}
use Rattle.mnemonic.specs.declared.Action.{Action}
use Rattle.mnemonic.specs.declared.Action.TheVariants as action
use Rattle.command.specs.Arguments.{question_mark}
use Rattle.command.specs.Parsed.{Parsed, traces, parsed_of}
use Rattle.command.specs.declared.Kind.{Kind}
use Rattle.command.specs.declared.Kind.TheVariants.{Set, Query, Act}
use Rattle.settings.specs.Limits.{capacity_most}
use Rattle.settings.specs.Table.{send, value_of}
use Rattle.storage.specs.Storage.{one_shot, tick_stores, trigger_stores}
use Rattle.state.specs.State.{sampling_of}
use Rattle.state.specs.declared.Pair.{Pair}
use Rattle.state.specs.declared.State.{State}
use Rattle.reply_buffer.specs.Buffer.{formed}
use Rattle.reply.specs.Text.{terminator_of}
use Rattle.line.specs.Line.{Line, start_line, after_command}
use Rattle.event.specs.declared.Event.{Event}
use Rattle.event.specs.declared.Event.TheVariants as event
use Rattle.queue.specs.Queue.{line_limit, waiting_bytes, received_of}
use Rattle.queue.specs.declared.Queue.{Queue}
use Rattle.queue.specs.declared.LineEnd.{LineEnd}
use Rattle.queue.specs.declared.LineEnd.TheVariants as ending
use Rattle.lockin.specs.Start.{start_call}
use Rattle.module.specs.Module.{guard_of}
use Rattle.module.specs.declared.Module.{Module}
use Rattle.lockin.specs.Calls.{line_call, byte_call, event_call}
use Rattle.lockin.specs.Run.{run_call}
use Rattle.demand2.specs.Demand2.{joined, answered}

-- ---- what a call does to the history

-- §7.3: the pairs stored since the last emptying, oldest first
abbrev pub History : Type 0
History = List Pair

-- §7.6 and §7.7: the history with the latest pair at its end where that is stored, else as it was
abbrev pub pair_stored : Bool → State → History → History
pair_stored stores s history = cond stores (history ++ (s.latest ∷ [])) history

-- §7.7: a tick: stored where storage runs at a rate other than SRAT 14
unfoldable pub after_tick : State → History → History
after_tick s history = pair_stored (tick_stores s.acquisition.storage (sampling_of s.settings)) s history

-- §7.6: a trigger, by the event or by TRIG: stored where storage, once TSTR 1 has started it, runs at SRAT 14
unfoldable pub after_trigger : State → History → History
after_trigger s history = pair_stored (trigger_stores s.acquisition.storage (sampling_of s.settings)) s history

-- §9.5: an event: a tick and a trigger may store, the others do not
unfoldable pub history_after_event : Event → State → History → History
history_after_event event.Tick s history = after_tick s history
history_after_event event.Trigger s history = after_trigger s history
history_after_event (event.Latest w v) s history = history
history_after_event (event.Measured f) s history = history
history_after_event (event.Raised lia errors) s history = history

-- §7.2 and §11.2: a command without arguments: REST and *RST empty storage; §7.6: TRIG is a trigger; STRT, PAUS and
-- *CLS store nothing
unfoldable pub after_action : Action → State → History → History
after_action action.Reset s history = []
after_action action.Empty s history = []
after_action action.Trigger s history = after_trigger s history
after_action action.Start s history = history
after_action action.Pause s history = history
after_action action.Clear s history = history

-- §1.1: a command that was read: sets and queries store nothing, whether 3 or 4 refuses them or not; §12.3 and §12.4:
-- the others are refused by neither
unfoldable pub after_kind : Kind → State → History → History
after_kind (Set a) s history = history
after_kind (Query q) s history = history
after_kind (Act a) s history = after_action a s history

-- §12.1 and §12.2: a command's text as it is read: nothing is stored where it is refused by 1 or 2, or empty (§2.6)
unfoldable pub after_text : Parsed → State → History → History
after_text (Ok None) s history = history
after_text (Err r) s history = history
after_text (Ok (Some c)) s history = after_kind c.kind s history

-- §2.6: the commands of a line in turn, each from the state that the one before it left, up to one that 4 refuses
-- (§12.4)
unfoldable pub after_texts : ℕ → List (List ℕ) → Line → History → History
after_texts room [] l history = history
after_texts room (text ∷ more) l history =
    let next = after_command room text l in
    let now = after_text (parsed_of text) l.after history in
    cond next.report.dropped now (after_texts room more next now)

-- §2.6: a line that runs
abbrev pub history_after_line : ℕ → List ℕ → State → List ℕ → List ℕ → History → History
history_after_line room line s one two history = after_texts room (texts_of line) (start_line s one two) history

-- §1.4: a call: 11 and 9 refuse it before anything is stored
unfoldable pub unless_refused : Outcome → History → History → History
unless_refused (Ok _) now history = now
unless_refused (Err r) now history = history

-- §2.4: a line handed over whole: one over the line limit does not run
unfoldable pub after_line_call : ℕ → List ℕ → Module → List ℕ → List ℕ → History → History
after_line_call room line m one two history =
    unless_refused (guard_of m (length one) (length two))
    (cond (leb (length line) line_limit) (history_after_line room line m.state one two history) history) history

-- §2.2: what a byte ends: the line that waits in the queue runs, and nothing else stores
unfoldable pub after_ended : LineEnd → Queue → ℕ → Module → List ℕ → List ℕ → History → History
after_ended ending.Nothing q room m one two history = history
after_ended ending.Line q room m one two history = history_after_line room (waiting_bytes q) m.state one two history
after_ended ending.TooLong q room m one two history = history

-- §2.2: a byte
unfoldable pub after_byte_call : ℕ → ℕ → Bool → Module → List ℕ → List ℕ → History → History
after_byte_call room b mark m one two history =
    let received = received_of m.queue m.state.installation.port b mark in
    unless_refused (guard_of m (length one) (length two))
    (after_ended received.ending received.queue room m one two history) history

-- §9.5: an event
unfoldable pub after_event_call : Event → Module → List ℕ → List ℕ → History → History
after_event_call e m one two history =
    unless_refused (guard_of m (length one) (length two)) (history_after_event e m.state history) history

-- ---- what the module and its traces hold

-- §7.3: pair n of the history, from 0
abbrev pub pair_at : History → ℕ → Pair
pair_at history n = get_or history n (record { one = 0; two = 0 })

-- §7.3: a trace has one word of each of the last pairs of the history, as many pairs as there are slots: that of pair n
-- in slot n mod capacity
abbrev pub InSlots : (Pair → ℕ) → History → ℕ → List ℕ → Type 0
InSlots word history capacity trace =
    (n : ℕ) → n < length history → length history ≤ n + capacity →
    get_or trace (n % capacity) 0 ≡ word (pair_at history n)

-- §7.9: a state and its traces hold the history: the points held are all of it up to the capacity; §7.3: the next slot
-- is that of the pair to come, and each trace has its words; §7.4: in one shot no more pairs were stored than there are
-- slots
pub record Holds (history : History) (s : State) (one two : List ℕ) : Type 0 where
  pub held : s.acquisition.storage.held ≡ min (length history) s.installation.capacity
  pub next : s.acquisition.storage.next ≡ length history % s.installation.capacity
  pub first : InSlots (λ p. p.one) history s.installation.capacity one
  pub second : InSlots (λ p. p.two) history s.installation.capacity two
  pub whole : value_of s.settings send ≡ one_shot → length history ≤ s.installation.capacity

-- §7.3: a module with its traces after any calls from a start on, each with the traces that the call before it left,
-- and its history
pub data Stored : History → Module → List ℕ → List ℕ → Type 0 where
  -- §1.2 and §1.3: by a start, refused or not
  by_start : (serial port first second : ℕ) (one two : List ℕ) →
      Stored [] (start_call serial port first second).after one two
  -- §2.4: by a line handed over whole
  by_line : (room : ℕ) (line : List ℕ) (history : History) (m : Module) (one two : List ℕ) →
      Stored history m one two →
      Stored (after_line_call room line m one two history)
      (line_call room line m one two).after (line_call room line m one two).one (line_call room line m one two).two
  -- §2.2: by a byte
  by_byte : (room b : ℕ) (mark : Bool) (history : History) (m : Module) (one two : List ℕ) →
      Stored history m one two →
      Stored (after_byte_call room b mark m one two history)
      (byte_call room b mark m one two).after
      (byte_call room b mark m one two).one (byte_call room b mark m one two).two
  -- by an event
  by_event : (e : Event) (history : History) (m : Module) (one two : List ℕ) → Stored history m one two →
      Stored (after_event_call e m one two history)
      (event_call e m one two).after (event_call e m one two).one (event_call e m one two).two

-- §7.3: a module with its traces that was so made, whatever its history
pub record StoredSome (m : Module) (one two : List ℕ) : Type 0 where
  pub history : History
  pub stored : Stored history m one two

-- §7.3, §7.4 and §7.9: a start, refused or not, holds the empty history, and every line, byte and event, refused or
-- not, leads on from there; §2.9: so does every run, whose bytes do what they do one by one
pub record PointsKept : Type 0 where
  pub start : (serial port first second : ℕ) (one two : List ℕ) →
      Holds [] (start_call serial port first second).after.state one two
  pub line : (room : ℕ) (line : List ℕ) (history : History) (m : Module) (one two : List ℕ) →
      Holds history m.state one two →
      let c = line_call room line m one two in
      Holds (after_line_call room line m one two history) c.after.state c.one c.two
  pub byte : (room b : ℕ) (mark : Bool) (history : History) (m : Module) (one two : List ℕ) →
      Holds history m.state one two →
      let c = byte_call room b mark m one two in
      Holds (after_byte_call room b mark m one two history) c.after.state c.one c.two
  pub event : (e : Event) (history : History) (m : Module) (one two : List ℕ) →
      Holds history m.state one two →
      let c = event_call e m one two in
      Holds (after_event_call e m one two history) c.after.state c.one c.two
  pub made : (history : History) (m : Module) (one two : List ℕ) →
      Stored history m one two → Holds history m.state one two
  pub run : (room : ℕ) (bytes : List ℕ) (mark : Bool) (history : History) (m : Module) (one two : List ℕ) →
      length m.queue.bytes ≡ line_limit → Stored history m one two →
      let c = run_call room bytes mark m one two in
      StoredSome c.after c.one c.two

-- ---- what is replied

-- §7.9: the pairs held, oldest first: bin j is the j-th of them
abbrev pub held_of : ℕ → History → History
held_of capacity history = drop (length history - capacity) history

-- §8.1: the word of trace 1 or of trace 2
abbrev pub trace_word : ℕ → Pair → ℕ
trace_word t p = cond (eqb t 1) p.one p.two

-- §8.1: points as they are sent, four bytes each, low byte first: words by TRCL?, floats by TRCB? (§8.2)
unfoldable pub sent_points : Form → ℕ → List Pair → List ℕ
sent_points form t [] = []
sent_points form t (p ∷ more) = little_endian (formed form (trace_word t p)) ++ sent_points form t more

-- §8.1: the name of the query that sends points in this form
abbrev pub trace_name : Form → List ℕ
trace_name Words = bytes "TRCL"
trace_name Floats = bytes "TRCB"

-- §8.1: the query of count points of trace t from a bin on, as TRCL?1,0,2
abbrev pub trace_query : Form → ℕ → ℕ → ℕ → List ℕ
trace_query form t bin count = trace_name form ++ (question_mark ∷ joined (plain t ∷ plain bin ∷ plain count ∷ []))

-- §1.4: a module that neither 11 nor 9 refuses, its traces, and the history that they hold
pub record Holding (history : History) (m : Module) (one two : List ℕ) : Type 0 where
  pub passes : guard_of m (length one) (length two) ≡ done
  pub holds : Holds history m.state one two

-- §7.9: how many points are held of a history
abbrev pub held_count : History → Module → ℕ
held_count history m = min (length history) m.state.installation.capacity

-- §7.9: SPTS? replies how many points are held; §8.1: a trace query replies those from its bin on, each with room for
-- the reply; §8.4: a trace query that asks for more than are held is refused by 3
pub record PointsReplied (history : History) (m : Module) (one two : List ℕ) : Type 0 where
  pub points : (room : ℕ) →
      let out = plain (held_count history m) ++ (terminator_of m.state.installation.port ∷ []) in
      length out ≤ room → line_call room (bytes "SPTS?") m one two ≡ answered out m one two
  pub trace : (room : ℕ) (form : Form) (t bin count : ℕ) → 1 ≤ t → t ≤ traces → 1 ≤ count →
      bin + count ≤ held_count history m →
      let out = sent_points form t (take count (drop bin (held_of m.state.installation.capacity history))) in
      length out ≤ room → line_call room (trace_query form t bin count) m one two ≡ answered out m one two
  pub beyond : (room : ℕ) (form : Form) (t bin count : ℕ) → 1 ≤ t → t ≤ traces → bin ≤ capacity_most → 1 ≤ count →
      count ≤ capacity_most →
      held_count history m < bin + count →
      (line_call room (trace_query form t bin count) m one two).report.answer ≡ refused_at NotAllowed 1

-- §7.9, §8.1, §8.3 and §8.4: the points are replied so for every history, module and traces
abbrev pub RepliesPoints : Type 0
RepliesPoints =
    (history : History) (m : Module) (one two : List ℕ) → Holding history m one two → PointsReplied history m one two
