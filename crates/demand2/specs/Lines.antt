-- Lines of several commands, over the call with a whole line: a line x;y does what x does and then what y does (§2.6).
use Rattle.std.specs.Prelude.{ℕ, ◌+◌, ◌≤◌, cond, ◌≡◌, List, [], ◌∷◌, ◌++◌, length, Ok, Err}
use Rattle.line_text.specs.Clean.{line_limit}
use Rattle.line_text.specs.Texts.{semicolon, texts_of}
use Rattle.outcome.specs.Code.{done}
use Rattle.outcome.specs.Answer.{report_of, Answer, passed, refused_at}
use Rattle.line.specs.Line.{Line, run_all, line_of}
use Rattle.module.specs.Module.{guard_of}
use Rattle.module.specs.declared.Module.{Module}
use Rattle.lockin.specs.Calls.{Call, with_queue, line_ran, line_call}

-- §2.6: the line l with the commands of y after it: from its state and traces on, after its reply bytes and its places;
-- §12.4: none of them where a refusal 4 dropped the rest
abbrev pub continued : ℕ → List ℕ → Line → Line
continued room y l = cond l.report.dropped l (run_all room (texts_of y) l)

-- §2.6: an answer with n commands more before it, so that its place is n further on
abbrev pub later_answer : ℕ → Answer → Answer
later_answer n (Ok _) = passed
later_answer n (Err e) = refused_at e.refusal (e.place + n)

-- §2.6: a call whose answer's place is n further on
abbrev pub placed_later : ℕ → Call → Call
placed_later n c =
    record {
      after = c.after;
      one = c.one;
      two = c.two;
      out = c.out;
      report = report_of (later_answer n c.report.answer) c.report.length;
    }

-- §2.6: x;y in a module that 11 and 9 let pass: the commands of x, and then those of y from where x left the module,
-- its traces and the reply room (§12.13). Where x is answered 0 and replies nothing, that is one call with x and one
-- with y after it, the places counted on.
pub record InTurn (room : ℕ) (x y : List ℕ) (m : Module) (one two : List ℕ) : Type 0 where
  pub both : line_call room (x ++ semicolon ∷ y) m one two
      ≡ with_queue m.queue (line_ran (continued room y (line_of room x m.state one two)))
  pub calls :
      let c = line_call room x m one two in
      c.report.answer ≡ passed → c.out ≡ [] →
      line_call room (x ++ semicolon ∷ y) m one two
      ≡ placed_later (length (texts_of x)) (line_call room y c.after c.one c.two)

-- §2.6: this holds of all lines x;y that are not too long
abbrev pub SeveralCommands : Type 0
SeveralCommands =
    (room : ℕ) (x y : List ℕ) → length (x ++ semicolon ∷ y) ≤ line_limit → (m : Module) (one two : List ℕ) →
    guard_of m (length one) (length two) ≡ done → InTurn room x y m one two
