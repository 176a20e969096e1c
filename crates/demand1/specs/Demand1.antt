-- Demand 1: what is refused changes nothing, save the error bit laid down for it (§1.1). This holds of each command of
-- a line, and of lines, bytes, events, starts and polls, so no caller has to test anything beforehand. The statement is
-- RefusedChangesNothing, at the end. Refusals: §12.1, §12.2, §12.3, §12.4, §12.5, §12.6, §12.9, §12.10 and §12.11.
use Rattle.std.specs.Prelude.{ℕ, ◌+◌, ◌-◌, ◌≤◌, Bool, true, false, cond, not, Err}
use Rattle.std.specs.Prelude.{◌≢◌, ◌↔◌, ◌≡◌, List, [], ◌∷◌, ◌++◌, length}
use Rattle.outcome.specs.declared.Refusal.{Refusal}
use Rattle.outcome.specs.declared.Refusal.TheVariants.{Malformed, OutOfRange, NotAllowed, NoRoom, LongLine}
use Rattle.outcome.specs.declared.Refusal.TheVariants.{BadEvent, BadTraces, BadStart, BadState}
use Rattle.outcome.specs.Code.{done}
use Rattle.status.specs.Bits.{bit_of}
use Rattle.line_text.specs.Texts.{texts_of}
use Rattle.command.specs.Parsed.{parsed_of}
use Rattle.state.specs.State.{with_error_bit}
use Rattle.state.specs.declared.State.{State}
use Rattle.reply_buffer.specs.After.{After}
use Rattle.line.specs.Perform.{Effect, command_of}
use Rattle.outcome.specs.Answer.{is_no_room, first_of, refused_at}
use Rattle.outcome.specs.Answer as answer
use Rattle.line.specs.Line.{Line, waits, after_command, run_all, start_line}
use Rattle.event.specs.declared.Event.{Event}
use Rattle.queue.specs.Queue.{line_limit, emptied_of, discarding_is, is_marked, waiting_bytes, Received, received_of}
use Rattle.queue.specs.declared.Queue.{Queue}
use Rattle.queue.specs.declared.LineEnd.TheVariants as ending
use Rattle.module.specs.Start.{installation_known, traces_fit, fresh_module}
use Rattle.module.specs.Module.{valid_module, guard_of}
use Rattle.module.specs.declared.Module.{Module}
use Rattle.lockin.specs.declared.StartResult.{StartResult}
use Rattle.lockin.specs.declared.PollResult.{PollResult}
use Rattle.lockin.specs.declared.byte_run.RunReport.{RunReport}
use Rattle.lockin.specs.Start.{start_call}
use Rattle.lockin.specs.Calls.{Call, line_call, byte_call, EventCall, event_call, poll_call}
use Rattle.lockin.specs.Run.{run_call}
use Rattle.runs.specs.Singly.{SameAsSingly}

-- ---- the bit laid down

-- §10.1: the refusals of a command, each with its bit of the standard event register
pub data OfCommand : Refusal → ℕ → Type 0 where
  -- §12.1: 1 sets CMD
  malformed : OfCommand Malformed 5
  -- §12.2: 2 sets EXE
  out_of_range : OfCommand OutOfRange 4
  -- §12.3: 3 sets EXE
  not_allowed : OfCommand NotAllowed 4
  -- §12.4: 4 sets QRY
  no_room : OfCommand NoRoom 2

-- bit i is set, and each other bit is as it was
pub record BitSet (i before after : ℕ) : Type 0 where
  pub here : bit_of after i ≡ 1
  pub others : (j : ℕ) → (j ≡ i → ⊥) → bit_of after j ≡ bit_of before j

-- §1.1: bit i of the standard event register is set, and all else of the state is as it was
pub record Marked (refusal : Refusal) (i : ℕ) (before after : State) : Type 0 where
  pub state : after ≡ with_error_bit refusal before
  pub standard : BitSet i before.registers.standard after.registers.standard
  pub lia : after.registers.lia ≡ before.registers.lia
  pub errors : after.registers.errors ≡ before.registers.errors
  pub settings : after.settings ≡ before.settings
  pub acquisition : after.acquisition ≡ before.acquisition
  pub enables : after.enables ≡ before.enables
  pub latest : after.latest ≡ before.latest
  pub installation : after.installation ≡ before.installation

-- ---- a command

-- §1.1: a refused command: the bit laid down for it is set, no trace point is changed and no reply byte is written
pub record RefusedCommand (refusal : Refusal) (s : State) (one two : List ℕ) (e : Effect) : Type 0 where
  pub bit : ℕ
  pub laid : OfCommand refusal bit
  pub marked : Marked refusal bit s e.after
  pub first : e.one ≡ one
  pub second : e.two ≡ two
  pub reply : e.out ≡ []

-- §12.13: what a command does as the next one of a line: its room is what the line's bytes so far leave
abbrev pub effect_in : ℕ → List ℕ → Line → Effect
effect_in room text l = command_of (room - length l.out) (waits l.out) (parsed_of text) l.after l.one l.two

-- §2.7: a refused command of a line: the line's reply bytes stay as they are, its answer is this refusal where it had
-- none before, and the commands after it still have their turn, save under 4 (§12.4)
pub record RefusedStep (refusal : Refusal) (room : ℕ) (text : List ℕ) (l : Line) : Type 0 where
  pub report : (effect_in room text l).report ≡ Err refusal
  pub bit : ℕ
  pub laid : OfCommand refusal bit
  pub marked : Marked refusal bit l.after (after_command room text l).after
  pub first : (after_command room text l).one ≡ l.one
  pub second : (after_command room text l).two ≡ l.two
  pub reply : (after_command room text l).out ≡ l.out
  pub answer : (after_command room text l).report.answer
      ≡ first_of l.report.answer (Err refusal) (l.report.count + 1)
  pub next : (more : List (List ℕ)) →
      let next = after_command room text l in
      run_all room (text ∷ more) l ≡ cond (is_no_room refusal) next (run_all room more next)

-- §2.6: an accepted command of a line: the state and the traces that it leaves are the line's, its reply comes after
-- the bytes before it (§12.13), and the commands after it have their turn from there
pub record AcceptedStep (room : ℕ) (text : List ℕ) (l : Line) : Type 0 where
  pub report : (effect_in room text l).report ≡ done
  pub state : (after_command room text l).after ≡ (effect_in room text l).after
  pub first : (after_command room text l).one ≡ (effect_in room text l).one
  pub second : (after_command room text l).two ≡ (effect_in room text l).two
  pub reply : (after_command room text l).out ≡ l.out ++ (effect_in room text l).out
  pub answer : (after_command room text l).report.answer ≡ l.report.answer
  pub next : (more : List (List ℕ)) → run_all room (text ∷ more) l ≡ run_all room more (after_command room text l)

-- ---- the commands of a line

-- §2.7: a command after which the next one has its turn
pub data Continues (room : ℕ) (text : List ℕ) (l : Line) : Type 0 where
  -- an accepted one
  accepted : AcceptedStep room text l → Continues room text l
  -- one refused by another refusal than 4
  refused : (refusal : Refusal) → RefusedStep refusal room text l → refusal ≢ NoRoom → Continues room text l

-- §2.6: commands one after the other, each a Step: each starts from the line as the one before it left it
pub data OneByOne (Step : List ℕ → Line → Type 0) (room : ℕ) : List (List ℕ) → Line → Line → Type 0 where
  -- no command is left
  none : (l : Line) → OneByOne Step room [] l l
  -- one command, and then the others
  next : (text : List ℕ) (more : List (List ℕ)) (l end : Line) → Step text l →
      OneByOne Step room more (after_command room text l) end → OneByOne Step room (text ∷ more) l end

-- §1.5: the commands of a line from its start to its end, and the length reported
pub data Commands (room : ℕ) (start : Line) : List (List ℕ) → Line → ℕ → Type 0 where
  -- §2.6: every command has its turn, and the length is that of the reply
  whole : (texts : List (List ℕ)) (end : Line) →
      OneByOne (Continues room) room texts start end →
      Commands room start texts end (length end.out)
  -- §12.4: one is refused by 4, which drops those after it: the bytes written before it stay (`reply` of RefusedStep),
  -- and the length is 0
  room_too_small : (before : List (List ℕ)) (text : List ℕ) (dropped : List (List ℕ)) (here : Line) →
      OneByOne (Continues room) room before start here →
      RefusedStep NoRoom room text here →
      Commands room start (before ++ (text ∷ dropped)) (after_command room text here) 0

-- §2.6 and §2.7: the first refused command of a line has this place, counted from 1: each command before it is accepted
pub record FirstRefusedCommand (refusal : Refusal) (place room : ℕ) (texts : List (List ℕ)) (start : Line) : Type 0
  where
    pub before : List (List ℕ)
    pub text : List ℕ
    pub after : List (List ℕ)
    pub commands : texts ≡ before ++ (text ∷ after)
    pub counted : place ≡ length before + 1
    pub here : Line
    pub accepted : OneByOne (AcceptedStep room) room before start here
    pub refused : RefusedStep refusal room text here

-- ---- a call that runs a line

-- §2.7: the call c runs the commands of these bytes on the module m, and the queue is q after it: its module, traces,
-- reply bytes and answer are those at the end of the line. It answers 0 only where each command is accepted, and else
-- the first refused one's refusal and place.
pub record RunsLine (room : ℕ) (bytes : List ℕ) (m : Module) (q : Queue) (one two : List ℕ) (c : Call) : Type 0 where
  pub end : Line
  pub commands : Commands room (start_line m.state one two) (texts_of bytes) end c.report.length
  pub state : c.after.state ≡ end.after
  pub queue : c.after.queue ≡ q
  pub first : c.one ≡ end.one
  pub second : c.two ≡ end.two
  pub reply : c.out ≡ end.out
  pub report : c.report.answer ≡ end.report.answer
  pub passed : c.report.answer ≡ answer.passed →
      OneByOne (AcceptedStep room) room (texts_of bytes) (start_line m.state one two) end
  pub placed : (refusal : Refusal) (place : ℕ) → c.report.answer ≡ refused_at refusal place →
      FirstRefusedCommand refusal place room (texts_of bytes) (start_line m.state one two)

-- §2.1 and §2.3: what a byte does to the module's queue
abbrev pub received_to : Module → ℕ → Bool → Received
received_to m b mark = received_of m.queue m.state.installation.port b mark

-- §2.2: a byte that ends a line: the bytes that wait run as the line, and none waits after it
abbrev pub RunsWaiting : ℕ → ℕ → Bool → Module → List ℕ → List ℕ → Type 0
RunsWaiting room b mark m one two =
    let q = (received_to m b mark).queue in
    RunsLine room (waiting_bytes q) m (emptied_of q) one two (byte_call room b mark m one two)

-- §1.5 and §2.2: a byte that ends no line: the answer is 0, and only the queue is another one
pub record OnlyQueued (m : Module) (q : Queue) (one two : List ℕ) (c : Call) : Type 0 where
  pub state : c.after.state ≡ m.state
  pub queue : c.after.queue ≡ q
  pub first : c.one ≡ one
  pub second : c.two ≡ two
  pub reply : c.out ≡ []
  pub answer : c.report.answer ≡ answer.passed
  pub length : c.report.length ≡ 0

-- ---- a call that is refused before any command, at place 0

-- §1.4: 9 and 11: nothing is changed, and the length reported is 0
pub record Untouched (m : Module) (one two : List ℕ) (c : Call) : Type 0 where
  pub after : c.after ≡ m
  pub first : c.one ≡ one
  pub second : c.two ≡ two
  pub reply : c.out ≡ []
  pub length : c.report.length ≡ 0

-- §12.5: 5: bit 0, INP, is set; the queue becomes q, and nothing else is changed
pub record OnlyMarked (m : Module) (q : Queue) (one two : List ℕ) (c : Call) : Type 0 where
  pub marked : Marked LongLine 0 m.state c.after.state
  pub queue : c.after.queue ≡ q
  pub first : c.one ≡ one
  pub second : c.two ≡ two
  pub reply : c.out ≡ []
  pub length : c.report.length ≡ 0

-- §1.5: the refusals at place 0; under 5 the queue becomes q
pub data RefusedCall (m : Module) (q : Queue) (one two : List ℕ) (c : Call) : Refusal → Type 0 where
  -- §12.11: 11
  state_refused : Untouched m one two c → RefusedCall m q one two c BadState
  -- §12.9: 9
  traces_refused : Untouched m one two c → RefusedCall m q one two c BadTraces
  -- §12.5: 5
  line_too_long : OnlyMarked m q one two c → RefusedCall m q one two c LongLine

-- §2.3: the queue after byte 257 of a line: empty, and bytes are discarded from here on, save where that byte's end
-- mark ends the line
abbrev pub emptied_at : Queue → Bool → Queue
emptied_at q marked = discarding_is (not marked) (emptied_of q)

-- ---- runs of bytes

-- §1.6: the refusals of a run as a whole
pub data OfRun : Refusal → Type 0 where
  -- §12.11: 11
  of_state : OfRun BadState
  -- §12.9: 9
  of_traces : OfRun BadTraces

-- §1.4 and §1.6: a run that is refused as a whole, at place 0: no byte is taken, and nothing is changed
pub record RefusedRun (refusal : Refusal) (place : ℕ) (m : Module) (one two : List ℕ) (c : After Module RunReport) :
    Type 0
  where
    pub report : OfRun refusal
    pub nowhere : place ≡ 0
    pub taken : c.report.taken ≡ 0
    pub length : c.report.report.length ≡ 0
    pub after : c.after ≡ m
    pub first : c.one ≡ one
    pub second : c.two ≡ two
    pub reply : c.out ≡ []

-- ---- events, starts and polls

-- §1.5: the refusals of an event
pub data OfEvent : Refusal → Type 0 where
  -- §12.6: 6
  bad_event : OfEvent BadEvent
  -- §12.9: 9
  bad_traces : OfEvent BadTraces
  -- §12.11: 11
  bad_state : OfEvent BadState

-- §1.4 and §12.6: a refused event: nothing is changed
pub record RefusedEvent (refusal : Refusal) (m : Module) (one two : List ℕ) (c : EventCall) : Type 0 where
  pub report : OfEvent refusal
  pub after : c.after ≡ m
  pub first : c.one ≡ one
  pub second : c.two ≡ two

-- §1.3: the refusals of a start
pub data OfStart (serial port first second : ℕ) : Refusal → Type 0 where
  -- §12.10: 10: there is no such serial number or port
  unit_unknown : installation_known serial port ≡ false → OfStart serial port first second BadStart
  -- §12.9: else 9: the traces have lengths that they may not have
  traces_unfit : installation_known serial port ≡ true → traces_fit first second ≡ false →
      OfStart serial port first second BadTraces

-- §1.3: a refused start gives a fresh module: serial number 0, GPIB (port 1), capacity 1
pub record RefusedStart (serial port first second : ℕ) (refusal : Refusal) (s : StartResult) : Type 0 where
  pub report : OfStart serial port first second refusal
  pub after : s.after ≡ fresh_module (record { serial = 0; port = 1; capacity = 1 })

-- §10.7 and §12.11: a refused poll: 11, where the module is not valid; the status byte is then 0. A poll gives no
-- module back, so it changes none.
pub record RefusedPoll (refusal : Refusal) (m : Module) (p : PollResult) : Type 0 where
  pub report : refusal ≡ BadState
  pub outside : valid_module m ≡ false
  pub status : p.status ≡ 0

-- ---- demand 1

-- §1.1: demand 1: each call and each command, refused or not
pub record RefusedChangesNothing : Type 0 where
  -- §12.1, §12.2, §12.3 and §12.4: a command by itself ..
  pub command : (room : ℕ) (waiting : Bool) (text : List ℕ) (s : State) (one two : List ℕ) (refusal : Refusal) →
      (command_of room waiting (parsed_of text) s one two).report ≡ Err refusal →
      RefusedCommand refusal s one two (command_of room waiting (parsed_of text) s one two)
  -- §2.7: .. and as the next one of any line
  pub step : (room : ℕ) (text : List ℕ) (l : Line) (refusal : Refusal) →
      (effect_in room text l).report ≡ Err refusal → RefusedStep refusal room text l
  -- §2.4, §12.5, §12.9 and §12.11: a line handed over whole, which uses no queue: refused before any command;
  pub line : (room : ℕ) (bytes : List ℕ) (m : Module) (one two : List ℕ) (refusal : Refusal) →
      (line_call room bytes m one two).report.answer ≡ refused_at refusal 0 →
      RefusedCall m m.queue one two (line_call room bytes m one two) refusal
  -- §12.12: run where 11, 9 and 5 do not refuse it;
  pub line_runs : (room : ℕ) (bytes : List ℕ) (m : Module) (one two : List ℕ) →
      guard_of m (length one) (length two) ≡ done → length bytes ≤ line_limit →
      RunsLine room bytes m m.queue one two (line_call room bytes m one two)
  -- §1.5: and where it answers a place other than 0 it was run
  pub line-placed : (room : ℕ) (bytes : List ℕ) (m : Module) (one two : List ℕ) (refusal : Refusal) (p : ℕ) →
      (line_call room bytes m one two).report.answer ≡ refused_at refusal (p + 1) →
      RunsLine room bytes m m.queue one two (line_call room bytes m one two)
  -- §2.3, §12.5, §12.9 and §12.11: a byte: refused before any command;
  pub byte : (room b : ℕ) (mark : Bool) (m : Module) (one two : List ℕ) (refusal : Refusal) →
      (byte_call room b mark m one two).report.answer ≡ refused_at refusal 0 →
      RefusedCall m (emptied_at m.queue (is_marked m.state.installation.port mark)) one two
      (byte_call room b mark m one two) refusal
  -- §2.2: the end of a line, which runs;
  pub byte_runs : (room b : ℕ) (mark : Bool) (m : Module) (one two : List ℕ) →
      guard_of m (length one) (length two) ≡ done → (received_to m b mark).ending ≡ ending.Line →
      RunsWaiting room b mark m one two
  -- §1.5: no end of a line;
  pub byte-waits : (room b : ℕ) (mark : Bool) (m : Module) (one two : List ℕ) →
      guard_of m (length one) (length two) ≡ done → (received_to m b mark).ending ≡ ending.Nothing →
      OnlyQueued m (received_to m b mark).queue one two (byte_call room b mark m one two)
  -- §1.5: and where it answers a place other than 0 it ended a line, which ran
  pub byte-placed : (room b : ℕ) (mark : Bool) (m : Module) (one two : List ℕ) (refusal : Refusal) (p : ℕ) →
      (byte_call room b mark m one two).report.answer ≡ refused_at refusal (p + 1) →
      ((received_to m b mark).ending ≡ ending.Line) × RunsWaiting room b mark m one two
  -- §1.6: a run of bytes: refused as a whole, wherever it reports a refusal at line 0;
  pub run : (room : ℕ) (bytes : List ℕ) (mark : Bool) (m : Module) (one two : List ℕ) (refusal : Refusal) (place : ℕ) →
      (run_call room bytes mark m one two).report.report.answer ≡ refused_at refusal place →
      (run_call room bytes mark m one two).report.line ≡ 0 →
      RefusedRun refusal place m one two (run_call room bytes mark m one two)
  -- §2.9: and else each byte that it takes is a byte's call, of which the above is said
  pub run-bytes : (room : ℕ) (bytes : List ℕ) (mark : Bool) (m : Module) (one two : List ℕ) →
      length m.queue.bytes ≡ line_limit → guard_of m (length one) (length two) ≡ done →
      SameAsSingly room bytes mark m one two (run_call room bytes mark m one two)
  -- §12.6, §12.9 and §12.11: an event
  pub event : (event : Event) (m : Module) (one two : List ℕ) (refusal : Refusal) →
      (event_call event m one two).report ≡ Err refusal →
      RefusedEvent refusal m one two (event_call event m one two)
  -- §1.3, §12.9 and §12.10: a start, refused exactly where OfStart says
  pub start : (serial port first second : ℕ) (refusal : Refusal) →
      ((start_call serial port first second).outcome ≡ Err refusal)
      ↔ RefusedStart serial port first second refusal (start_call serial port first second)
  -- §10.7 and §12.11: a poll, refused exactly where RefusedPoll says
  pub poll : (m : Module) (refusal : Refusal) →
      ((poll_call m).outcome ≡ Err refusal) ↔ RefusedPoll refusal m (poll_call m)
