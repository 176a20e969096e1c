-- What the machine can hold: the modules, traces and events that there can be. The definitions of the calls speak of
-- numbers of any size; the fields of a module, the words of a trace and the values of an event have the sizes given
-- here, so a claim that there is such a module, trace or event (§13.6) asks for these too.
use Rattle.std.specs.Prelude.{ℕ, ◌^◌, ◌<◌, ◌≡◌, List, [], ◌∷◌, length}
use Rattle.settings.specs.Table.{entries}
use Rattle.status.specs.declared.Registers.{Registers}
use Rattle.status.specs.declared.Enables.{Enables}
use Rattle.state.specs.declared.State.{State}
use Rattle.event.specs.declared.Event.{Event}
use Rattle.event.specs.declared.Event.TheVariants.{Latest, Tick, Trigger, Measured, Raised}
use Rattle.queue.specs.Queue.{line_limit}
use Rattle.queue.specs.declared.Queue.{Queue}
use Rattle.module.specs.declared.Module.{Module}

-- a byte
abbrev pub Byte : ℕ → Type 0
Byte x = x < 2 ^ 8

-- §7.1: a word of 32 bits
abbrev pub Word : ℕ → Type 0
Word x = x < 2 ^ 32

-- a count of bytes in memory
abbrev pub Count : ℕ → Type 0
Count x = x < 2 ^ 64

-- everything in a list is Such
abbrev pub Every : {A : Type 0} → (A → Type 0) → List A → Type 0
Every Such [] = Unit {0}
Every Such (x ∷ xs) = Such x × Every Such xs

-- §10.1: the event registers are bytes
pub record RegistersFit (r : Registers) : Type 0 where
  pub standard : Byte r.standard
  pub lia : Byte r.lia
  pub errors : Byte r.errors

-- §10.3: the enables are bytes
pub record EnablesFit (e : Enables) : Type 0 where
  pub standard : Byte e.standard
  pub service : Byte e.service
  pub lia : Byte e.lia
  pub errors : Byte e.errors

-- §5.1: a state has a value for each entry of the settings table, and every value fits its field
pub record StateFits (s : State) : Type 0 where
  pub full : length s.settings.values ≡ entries
  pub values : Every Word s.settings.values
  pub external : Word s.acquisition.external
  pub held : Word s.acquisition.storage.held
  pub next : Word s.acquisition.storage.next
  pub registers : RegistersFit s.registers
  pub enables : EnablesFit s.enables
  pub latest : Word s.latest.one × Word s.latest.two
  pub installation : Word s.installation.serial × Byte s.installation.port × Word s.installation.capacity

-- §2.3: a queue has as many bytes as a line may have, however many of them wait
pub record QueueFits (q : Queue) : Type 0 where
  pub full : length q.bytes ≡ line_limit
  pub bytes : Every Byte q.bytes
  pub len : Count q.len

-- a module's state and queue fit
pub record ModuleFits (m : Module) : Type 0 where
  pub state : StateFits m.state
  pub queue : QueueFits m.queue

-- the values of an event fit
abbrev pub EventFits : Event → Type 0
EventFits (Latest w v) = Word w × Word v
EventFits Tick = Unit {0}
EventFits Trigger = Unit {0}
EventFits (Measured f) = Word f
EventFits (Raised lia errors) = Byte lia × Byte errors
