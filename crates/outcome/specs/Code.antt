-- The number of each refusal (`code_of` lists the clauses), the standard event bits (§10.1) that it sets, and outcomes.
use Rattle.std.specs.Prelude.{ℕ, ◌^◌, Result, Ok, Err}
use Rattle.outcome.specs.declared.Refusal.{Refusal}
use Rattle.outcome.specs.declared.Refusal.TheVariants.{Malformed, OutOfRange, NotAllowed, NoRoom, LongLine}
use Rattle.outcome.specs.declared.Refusal.TheVariants.{BadEvent, NoReset, LongScriptLine, BadTraces}
use Rattle.outcome.specs.declared.Refusal.TheVariants.{BadStart, BadState}
use Rattle.outcome.specs.declared.Code.{Code}

-- §10.1 and §12.5: INP, standard event bit 0: a line was too long
abbrev pub inp : ℕ
inp = 2 ^ 0

-- §10.1 and §12.4: QRY, standard event bit 2: a reply had no room
abbrev pub qry : ℕ
qry = 2 ^ 2

-- §10.1, §12.2 and §12.3: EXE, standard event bit 4: a command could not be done
abbrev pub exe : ℕ
exe = 2 ^ 4

-- §10.1 and §12.1: CMD, standard event bit 5: a text is no command
abbrev pub cmd : ℕ
cmd = 2 ^ 5

-- no bit
abbrev pub none : ℕ
none = 0

-- a row of the table
abbrev numbered : ℕ → ℕ → Code
numbered n b = record { number = n; bits = b }

-- §12.1, §12.2, §12.3, §12.4, §12.5, §12.6, §12.7, §12.8, §12.9, §12.10 and §12.11: in this order each
-- refusal (a term of document 01): its number and its bits
abbrev pub code_of : Refusal → Code
code_of Malformed = numbered 1 cmd
code_of OutOfRange = numbered 2 exe
code_of NotAllowed = numbered 3 exe
code_of NoRoom = numbered 4 qry
code_of LongLine = numbered 5 inp
code_of BadEvent = numbered 6 none
code_of NoReset = numbered 7 none
code_of LongScriptLine = numbered 8 none
code_of BadTraces = numbered 9 none
code_of BadStart = numbered 10 none
code_of BadState = numbered 11 none

-- §1.5: how a command, an event or a start ends: nothing is refused, or refused, and why
abbrev pub Outcome : Type 0
Outcome = Result Unit Refusal

-- nothing is refused
abbrev pub done : Outcome
done = Ok tt

-- §1.5: an outcome as a number: 0 where nothing is refused, else the refusal's number. The promises of the start, of
-- events and of the serial poll use it
unfoldable pub number_of : Outcome → ℕ
number_of (Ok _) = 0
number_of (Err refusal) = (code_of refusal).number
