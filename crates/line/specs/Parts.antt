-- What the code takes the text of a command for, and gives back for a line on its way (§2.6, §2.7), and which lines
-- surely find room for their replies (§12.4, §12.13). No promise of a public call speaks of these.
use Rattle.std.specs.Prelude.{ℕ, ◌+◌, ◌/◌, Bool, false, not, ◌&&◌, ◌||◌, List, [], ◌∷◌, ltb, eqb, length, take}
use Rattle.std.specs.Prelude.{Option, Some, None, Result, Ok, Err}
use Rattle.split.specs.Divide.{parts}
use Rattle.command.specs.Arguments.{question_mark, comma}
use Rattle.line_text.specs.Clean.{line_limit, cleaned}
use Rattle.line_text.specs.Texts.{semicolon}
use Rattle.outcome.specs.declared.Refusal.{Refusal}
use Rattle.outcome.specs.Code.{done}
use Rattle.outcome.specs.Answer.{first_of, drops}
use Rattle.state.specs.Storing.{stored_in}
use Rattle.state.specs.declared.State.{State}
use Rattle.effect.specs.Effect.{state_by}
use Rattle.reply.specs.Parts.{bytes_said}
use Rattle.line.specs.Perform.{Effect, refused_by, nothing}
use Rattle.line.specs.Line.{Line}
use Rattle.line.specs.declared.Plan.{Plan}
use Rattle.line.specs.declared.Progress.{Progress}

-- what a command that is not refused leaves, once what the code plans of it is written
unfoldable pub written_by : Plan → State → List ℕ → List ℕ → Effect
written_by p s one two =
    record {
      after = state_by p.kind p.step s;
      one = stored_in p.step s s.latest.one one;
      two = stored_in p.step s s.latest.two two;
      out = bytes_said p.reply one two;
      report = done;
    }

-- what a command's text leaves by what the code takes it for
unfoldable pub effect_of : Result (Option Plan) Refusal → State → List ℕ → List ℕ → Effect
effect_of (Ok None) s one two = nothing s one two
effect_of (Err r) s one two = refused_by r s one two
effect_of (Ok (Some p)) s one two = written_by p s one two

-- the commands that the code runs of a line of any length: those among its first bytes that count (§2.5), as many as a
-- line may have, which are all where the line is not too long
abbrev pub texts_run : List ℕ → List (List ℕ)
texts_run line = parts semicolon (take line_limit (cleaned line))

-- the code's progress after one more command
abbrev pub progress_after : Progress → Effect → Progress
progress_after p e =
    record {
      state = e.after;
      at = p.at + length e.out;
      answer = first_of p.answer e.report (p.count + 1);
      count = p.count + 1;
      dropped = drops e.report;
    }

-- what the code gives back for a line on its way
abbrev pub progress_of : Line → Progress
progress_of l =
    let tally = l.report in
    record {
      state = l.after;
      at = length l.out;
      answer = tally.answer;
      count = tally.count;
      dropped = tally.dropped;
    }

-- the line that the code is at
abbrev pub line_reached : Progress → List ℕ → List ℕ → List ℕ → Line
line_reached p one two reply =
    record {
      after = p.state;
      one = one;
      two = two;
      out = take p.at reply;
      report = record { answer = p.answer; count = p.count; dropped = p.dropped };
    }

-- whether a byte stands in a text
abbrev pub has : ℕ → List ℕ → Bool
has b [] = false
has b (x ∷ xs) = eqb x b || has b xs

-- §11.1 and §11.3: the most bytes of a reply that is no trace read: those of *IDN? with their end
abbrev pub text_most : ℕ
text_most = 28

-- §12.4 and §12.13: whether a line's bytes alone show that no command of it is refused by 4: without "?" none replies
-- (§3.1); without "," none reads a trace (§8.1), and the room has a text for one more command than the line has bytes
unfoldable pub must_fit : List ℕ → ℕ → Bool
must_fit line room = not (has question_mark line) || (not (has comma line) && ltb (length line) (room / text_most))
