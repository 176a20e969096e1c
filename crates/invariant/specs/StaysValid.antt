-- Valid states stay valid, so that 11 never refuses a state that we made (§1.4, §12.11), nor 9 its traces (§12.9).
use Rattle.std.specs.Prelude.{ℕ, Bool, true, ◌≡◌, List, length}
use Rattle.outcome.specs.Code.{done}
use Rattle.event.specs.declared.Event.{Event}
use Rattle.queue.specs.Queue.{line_limit}
use Rattle.module.specs.Module.{valid_module, guard_of}
use Rattle.module.specs.declared.Module.{Module}
use Rattle.lockin.specs.Start.{start_call}
use Rattle.lockin.specs.Calls.{line_call, byte_call, event_call}
use Rattle.lockin.specs.Run.{run_call}

-- §1.4: from a module and its traces to others: a valid module stays valid, and where neither 11 (the state, §12.11)
-- nor 9 (the traces, §12.9) refuses a call, neither refuses the next one; the queue's bytes stay as many
pub record ModulePreserved (before after : Module) (one two first second : List ℕ) : Type 0 where
  pub valid : valid_module before ≡ true → valid_module after ≡ true
  pub next : guard_of before (length one) (length two) ≡ done → guard_of after (length first) (length second) ≡ done
  pub queued : length after.queue.bytes ≡ length before.queue.bytes

-- §12.11: a module that the calls made, each with any traces
pub data Reachable : Module → Type 0 where
  -- §1.2 and §1.3: by a start, refused or not
  by_start : (serial port first second : ℕ) → Reachable (start_call serial port first second).after
  -- §2.4: by a line handed over whole
  by_line : (room : ℕ) (bytes : List ℕ) (m : Module) (one two : List ℕ) → Reachable m →
      Reachable (line_call room bytes m one two).after
  -- §2.2: by a byte
  by_byte : (room b : ℕ) (mark : Bool) (m : Module) (one two : List ℕ) → Reachable m →
      Reachable (byte_call room b mark m one two).after
  -- §2.9: by a run of bytes
  by_run : (room : ℕ) (bytes : List ℕ) (mark : Bool) (m : Module) (one two : List ℕ) → Reachable m →
      Reachable (run_call room bytes mark m one two).after
  -- by an event
  by_event : (event : Event) (m : Module) (one two : List ℕ) → Reachable m →
      Reachable (event_call event m one two).after

-- §12.11: every start, refused ones too (§1.3), gives a valid module whose queue has all its bytes; where the start is
-- not refused, 9 does not refuse the traces either; §1.4: every line, byte, run and event leads on from there, so that
-- no module that we made is refused by 11
pub record StaysValid : Type 0 where
  pub start : (serial port first second : ℕ) → valid_module (start_call serial port first second).after ≡ true
  pub started : (serial port first second : ℕ) → (start_call serial port first second).outcome ≡ done →
      guard_of (start_call serial port first second).after first second ≡ done
  pub queued : (serial port first second : ℕ) →
      length (start_call serial port first second).after.queue.bytes ≡ line_limit
  pub line : (room : ℕ) (bytes : List ℕ) (m : Module) (one two : List ℕ) →
      let c = line_call room bytes m one two in
      ModulePreserved m c.after one two c.one c.two
  pub byte : (room b : ℕ) (mark : Bool) (m : Module) (one two : List ℕ) → length m.queue.bytes ≡ line_limit →
      let c = byte_call room b mark m one two in
      ModulePreserved m c.after one two c.one c.two
  pub run : (room : ℕ) (bytes : List ℕ) (mark : Bool) (m : Module) (one two : List ℕ) →
      length m.queue.bytes ≡ line_limit →
      let c = run_call room bytes mark m one two in
      ModulePreserved m c.after one two c.one c.two
  pub event : (event : Event) (m : Module) (one two : List ℕ) →
      let c = event_call event m one two in
      ModulePreserved m c.after one two c.one c.two
  pub made : (m : Module) → Reachable m → valid_module m ≡ true
