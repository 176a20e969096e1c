-- A run of bytes (§2.9) against the same bytes handed over one by one, each by a call of its own (§2.2).
use Rattle.std.specs.Prelude.{ℕ, suc, ◌+◌, ◌-◌, ◌<◌, ◌≡◌, Bool, true, cond, List, [], ◌∷◌, ◌++◌, length, take}
use Rattle.outcome.specs.declared.Refusal.{Refusal}
use Rattle.outcome.specs.Code.{done}
use Rattle.outcome.specs.Answer.{Answer, passed, refused_at}
use Rattle.queue.specs.Queue.{line_limit, is_end}
use Rattle.reply_buffer.specs.After.{After}
use Rattle.module.specs.Module.{guard_of}
use Rattle.module.specs.declared.Module.{Module}
use Rattle.lockin.specs.Calls.{byte_call}
use Rattle.lockin.specs.declared.byte_run.RunReport.{RunReport}
use Rattle.lockin.specs.Run.{first_answer, first_line, written_behind, lacks_room, mark_before, run_call}

-- ---- bytes handed over one by one

-- what calls with single bytes leave, and what a caller notes of them
pub record Fed : Type 0 where
  -- the module and the two traces as the last call left them
  pub after : Module
  pub one : List ℕ
  pub two : List ℕ
  -- §1.5: the replies reported, one behind the other
  pub replies : List ℕ
  -- §1.1: all that the calls wrote of the room, from its first byte on; behind the replies what a line left that met 4
  pub written : List ℕ
  -- §2.1: how many bytes were the end of a line
  pub ended : ℕ
  -- the first refusal that a call reported, with its place, and the number of its line, 0 where there is none
  pub answer : Answer
  pub line : ℕ

-- before the first byte
abbrev pub unfed : Module → List ℕ → List ℕ → Fed
unfed m one two =
    record { after = m; one = one; two = two; replies = []; written = []; ended = 0; answer = passed; line = 0 }

-- §2.2: one more byte by a call of its own, lent what the replies so far leave of the room, which it writes there
unfoldable pub fed_with : ℕ → ℕ → Bool → Fed → Fed
fed_with room b mark f =
    let c = byte_call (room - length f.replies) b mark f.after f.one f.two in
    record {
      after = c.after;
      one = c.one;
      two = c.two;
      replies = f.replies ++ take c.report.length c.out;
      written = written_behind (length f.replies) c.out f.written;
      ended = cond (is_end f.after.state.installation.port b mark) (f.ended + 1) f.ended;
      answer = first_answer f.answer c.report.answer;
      line = first_line f.answer f.line c.report.answer (f.ended + 1);
    }

-- ---- the rule

-- §2.10: a line ended before, and the byte would end one of which some command meets 4 in what is left of the room
pub record Stops (room b : ℕ) (mark : Bool) (f : Fed) : Type 0 where
  pub before : 0 < f.ended
  pub here : lacks_room (room - length f.replies) b mark f.after f.one f.two ≡ true

-- §2.9 and §2.10: of these bytes, of which the last carries `mark`, the first n are handed over one by one, from f to
-- the last Fed
pub data Taken (room : ℕ) (mark : Bool) : List ℕ → Fed → ℕ → Fed → Type 0 where
  -- no byte is left: all were taken
  whole : (f : Fed) → Taken room mark [] f 0 f
  -- here the rule stops the run
  stopped : (b : ℕ) (more : List ℕ) (f : Fed) → Stops room b (mark_before mark more) f →
      Taken room mark (b ∷ more) f 0 f
  -- here it does not, and the byte is taken
  next : (b : ℕ) (more : List ℕ) (f : Fed) (n : ℕ) (end : Fed) → (Stops room b (mark_before mark more) f → ⊥) →
      Taken room mark more (fed_with room b (mark_before mark more) f) n end →
      Taken room mark (b ∷ more) f (suc n) end

-- ---- the claim

-- §2.9 and §2.10: what the call c with a run leaves and reports is what the bytes leave one by one, as many of them as
-- the rule lets be taken
pub record SameAsSingly (lent : ℕ) (bytes : List ℕ) (mark : Bool) (m : Module) (one two : List ℕ)
    (c : After Module RunReport) : Type 0
  where
    pub fed : Fed
    pub taken : Taken lent mark bytes (unfed m one two) c.report.taken fed
    pub after : c.after ≡ fed.after
    pub first : c.one ≡ fed.one
    pub second : c.two ≡ fed.two
    pub room : c.out ≡ fed.written
    -- the replies, joined in order, stand at the front of the room
    pub replies : take (length fed.replies) c.out ≡ fed.replies
    pub told : c.report.report.length ≡ length fed.replies
    -- §1.6: the first refusal with its place, and its line
    pub answer : c.report.report.answer ≡ fed.answer
    pub line : c.report.line ≡ fed.line

-- §2.9 and §2.10: the claim holds of every run that 11 and 9 do not refuse; §1.6: and a refusal in it has a line,
-- counted from 1. A module's queue has room for 256 bytes, by its type.
pub record RunsAreBytes : Type 0 where
  pub same : (room : ℕ) (bytes : List ℕ) (mark : Bool) (m : Module) (one two : List ℕ) →
      length m.queue.bytes ≡ line_limit → guard_of m (length one) (length two) ≡ done →
      SameAsSingly room bytes mark m one two (run_call room bytes mark m one two)
  pub placed : (room : ℕ) (bytes : List ℕ) (mark : Bool) (m : Module) (one two : List ℕ) (refusal : Refusal) (p : ℕ) →
      guard_of m (length one) (length two) ≡ done →
      (run_call room bytes mark m one two).report.report.answer ≡ refused_at refusal p →
      0 < (run_call room bytes mark m one two).report.line
