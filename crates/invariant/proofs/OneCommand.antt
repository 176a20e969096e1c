-- A line that is one command: what a call with it does. Assumes nothing.
use Prim.Native.Nat.{ℕ, ◌≤◌}
use mathlib.Core.Bool.{Bool, true, false, cond}
use mathlib.Core.Path.{◌≡◌, refl}
use mathlib.Core.List.{List, [], ◌∷◌}
use native.Mathlib.Nat.{sub-zero}
use lib.ListN.{length}
use borrow.Author.Tests.{le-leb}
use Rattle.split.specs.Divide.{parts}
use Rattle.line_text.specs.Clean.{line_limit, cleaned}
use Rattle.line_text.specs.Texts.{semicolon}
use Rattle.outcome.specs.Code.{done}
use Rattle.command.specs.Parsed.{parsed_of, taken}
use Rattle.command.specs.declared.Kind.{Kind}
use Rattle.state.specs.declared.State.{State}
use Rattle.line.specs.Perform.{performed, command_of}
use Rattle.line.specs.Line.{Line, start_line, after_of, after_command, run_all, line_of}
use Rattle.module.specs.Module.{guard_of}
use Rattle.module.specs.declared.Module.{Module}
use Rattle.lockin.specs.Calls.{with_queue, guarded, line_ran, line_end, whole_end, whole_line, line_call}

-- a line that is one command and is refused by neither 1 nor 2: short enough, no byte of it dropped or changed, not
-- divided, and taken
pub record Says (text : List ℕ) (kind : Kind) : Type 0 where
  pub short : length text ≤ line_limit
  pub kept : cleaned text ≡ text
  pub single : parts semicolon text ≡ text ∷ []
  pub read : parsed_of text ≡ taken kind

-- both branches are one line
either : (t : Bool) (l : Line) → cond t l l ≡ l
either true l = refl
either false l = refl

-- such a line performs its command and nothing else
pub said_line : (text : List ℕ) (kind : Kind) → Says text kind → (room : ℕ) (s : State) (one two : List ℕ) →
    line_of room text s one two ≡ after_of (start_line s one two) (performed room false kind s one two)
unfolding line_of run_all after_command command_of
said_line text kind says room s one two =
    let l = after_of (start_line s one two) (performed room false kind s one two) in
    rw (says.kept, says.single, says.read, sub-zero room) (either l.report.dropped l)

-- a call with a line that 11, 9 and 5 do not refuse
pub open_call : (room : ℕ) (text : List ℕ) (m : Module) (one two : List ℕ) →
    guard_of m (length one) (length two) ≡ done → length text ≤ line_limit →
    line_call room text m one two ≡ with_queue m.queue (line_ran (line_of room text m.state one two))
unfolding line_call whole_line whole_end line_end guarded
open_call room text m one two passes short = rw (passes, le-leb (length text) line_limit short) refl

-- a call with such a line that neither 11 nor 9 refuses
pub said_call : (text : List ℕ) (kind : Kind) → Says text kind → (room : ℕ) (m : Module) (one two : List ℕ) →
    guard_of m (length one) (length two) ≡ done →
    line_call room text m one two
    ≡ with_queue m.queue
    (line_ran (after_of (start_line m.state one two) (performed room false kind m.state one two)))
said_call text kind says room m one two passes =
    rw (open_call room text m one two passes says.short, said_line text kind says room m.state one two) refl
