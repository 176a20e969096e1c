-- What a line does, command by command: §2.6, §2.7, §2.8, §12.4 and §12.13.
use Rattle.std.specs.Prelude.{ℕ, ◌+◌, ◌-◌, Bool, false, cond, List, [], ◌∷◌, ◌++◌, ltb, length}
use Rattle.line_text.specs.Texts.{texts_of}
use Rattle.outcome.specs.Answer.{first_of, drops, Answer, passed}
use Rattle.command.specs.Parsed.{parsed_of}
use Rattle.state.specs.declared.State.{State}
use Rattle.reply_buffer.specs.After.{After, silent}
use Rattle.line.specs.Perform.{Effect, command_of}

-- §2.7: what is known of a line on its way: the answer so far; §2.6: how many commands there were; §12.4: whether the
-- rest is dropped
pub record Tally : Type 0 where
  pub answer : Answer
  pub count : ℕ
  pub dropped : Bool

-- §2.6: a line on its way: what its commands so far leave
abbrev pub Line : Type 0
Line = After State Tally

-- §10.6: whether bytes of the line's reply wait already
abbrev pub waits : List ℕ → Bool
waits out = ltb 0 (length out)

-- §2.6 and §2.7: the line after one more command: its reply is behind the earlier ones, and the first refusal is the
-- answer
unfoldable pub after_of : Line → Effect → Line
after_of l e =
    let count = l.report.count + 1 in
    record {
      after = e.after;
      one = e.one;
      two = e.two;
      out = l.out ++ e.out;
      report = record {
        answer = first_of l.report.answer e.report count;
        count = count;
        dropped = drops e.report;
      };
    }

-- §12.13: one more command, by its text, where `room` bytes are lent for the replies of the whole line
unfoldable pub after_command : ℕ → List ℕ → Line → Line
after_command room text l =
    after_of l (command_of (room - length l.out) (waits l.out) (parsed_of text) l.after l.one l.two)

-- §2.6 and §2.8: the commands of these texts in turn, with nothing between them; §12.4: up to one that drops the rest
unfoldable pub run_all : ℕ → List (List ℕ) → Line → Line
run_all room [] l = l
run_all room (text ∷ more) l =
    let next = after_command room text l in
    cond next.report.dropped next (run_all room more next)

-- §2.7: a line before its first command: nothing is refused
abbrev pub start_line : State → List ℕ → List ℕ → Line
start_line s one two = silent (record { answer = passed; count = 0; dropped = false }) s one two

-- §2.6: what a line of at most 256 bytes does, where `room` bytes are lent for its replies
unfoldable pub line_of : ℕ → List ℕ → State → List ℕ → List ℕ → Line
line_of room line s one two = run_all room (texts_of line) (start_line s one two)
