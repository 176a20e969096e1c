-- A run of bytes does what its bytes do one by one: each byte of it is a call of its own, since 11 and 9, which refuse
-- not the run, refuse none of these calls. Assumes nothing.
use Prim.Native.Nat.{ℕ, suc, ◌+◌, ◌-◌, ◌<◌, ◌≤◌}
use mathlib.Core.Path.{◌≡◌, refl, sym, ap, subst, ◌∙◌}
use mathlib.Core.Bool.{Bool, true, false, false≢true}
use mathlib.Core.List.{List, [], ◌∷◌, ◌++◌}
use native.Mathlib.Numerals.{unary_clauses}
use native.Mathlib.Omega.{arith}
use borrow.Author.Tests.{ltb-true, lt-ltb}
use lib.Dec.{ltb}
use lib.ListN.{length, take, drop}
use lib.Seq.{take-append-le, take-append-add, length-take-le}
use Rattle.std.specs.Prelude.{Ok, Err}
use Rattle.laws.proofs.Tests.{split, cond_by, and_first, and_second}
use Rattle.outcome.specs.declared.Refusal.{Refusal}
use Rattle.outcome.specs.Code.{done}
use Rattle.outcome.specs.Answer.{Answer, refused_at}
use Rattle.queue.specs.Queue.{line_limit, waiting_bytes, received_of}
use Rattle.reply_buffer.specs.Buffer.{overwrite}
use Rattle.module.specs.Module.{guard_of}
use Rattle.module.specs.declared.Module.{Module}
use Rattle.lockin.specs.Calls.{guarded, received_call, byte_received, byte_call}
use Rattle.lockin.specs.Run.{Run, replied_length, first_answer, first_line, written_behind, next_byte, lacks_room, stops_at}
use Rattle.lockin.specs.Run.{mark_before, run_from, start_run, reported, run_call}
use Rattle.lockin.proofs.NextByte.{told-within}
use Rattle.lockin.proofs.WholeRun.{next-kept}
use Rattle.invariant.proofs.StaysValid.{stays-valid}
use Rattle.runs.specs.Singly.{Fed, fed_with, Stops, Taken, whole, stopped, next, SameAsSingly, RunsAreBytes}

-- ---- a run as single bytes

-- what the bytes of a run so far leave one by one
abbrev fed_of : Run → Fed
fed_of r =
    let t = r.report in
    record {
      after = r.after;
      one = r.one;
      two = r.two;
      replies = take (replied_length r) r.out;
      written = r.out;
      ended = t.ended;
      answer = t.report.answer;
      line = t.line;
    }

-- 11 and 9 do not refuse the next call, the queue has all its bytes, and what is reported is written
record Good (r : Run) : Type 0 where
  goes : guard_of r.after (length r.one) (length r.two) ≡ done
  long : length r.after.queue.bytes ≡ line_limit
  kept : replied_length r ≤ length r.out

-- a call that 11 and 9 do not refuse does what the byte does
not-refused : (room b : ℕ) (mark : Bool) (m : Module) (one two : List ℕ) →
    guard_of m (length one) (length two) ≡ done → byte_call room b mark m one two ≡ byte_received room b mark m one two
unfolding byte_call guarded
not-refused room b mark m one two e = rw e

-- the length reported of a byte is at most that of what it wrote
byte-within : (room b : ℕ) (mark : Bool) (m : Module) (one two : List ℕ) →
    (byte_received room b mark m one two).report.length ≤ length (byte_received room b mark m one two).out
unfolding byte_received received_call
byte-within room b mark m one two =
    let received = received_of m.queue m.state.installation.port b mark in
    told-within received.ending room (waiting_bytes received.queue) m.state one two

-- the replies with one more behind them
replies_more : (n k : ℕ) (reply out : List ℕ) → n ≤ length out → k ≤ length reply →
    take (n + k) (written_behind n reply out) ≡ take n out ++ take k reply
unfolding overwrite
replies_more n k reply out h g =
    let front : length (take n out) ≡ n = length-take-le n out h in
    let rest = reply ++ drop (length reply) (drop n out) in
    ap (λ i. take (i + k) (take n out ++ rest)) (sym front)
    ∙ take-append-add (take n out) rest k
    ∙ ap (λ l. take n out ++ l) (take-append-le k reply (drop (length reply) (drop n out)) g)

module _ (room : ℕ) (r : Run) (good : Good r) where
  -- the length of the replies so far
  replied : length (take (replied_length r) r.out) ≡ replied_length r
  replied = length-take-le (replied_length r) r.out good.kept

  module _ (b : ℕ) (mark : Bool) where
    -- the byte's own call
    alone : byte_call (room - replied_length r) b mark r.after r.one r.two
        ≡ byte_received (room - replied_length r) b mark r.after r.one r.two
    alone = not-refused (room - replied_length r) b mark r.after r.one r.two good.goes

    fed-next : fed_of (next_byte room b mark r) ≡ fed_with room b mark (fed_of r)
    unfolding next_byte fed_with
    fed-next =
        let c = byte_received (room - replied_length r) b mark r.after r.one r.two in
        rw (
          replied,
          alone,
          replies_more (replied_length r) c.report.length c.out r.out good.kept
              (byte-within (room - replied_length r) b mark r.after r.one r.two),
        )

    good_next : Good (next_byte room b mark r)
    unfolding next_byte
    good_next =
        let left = room - replied_length r in
        let stays = rw alone at (stays-valid.byte left b mark r.after r.one r.two good.long) in
        record {
          goes = stays.next good.goes;
          long = stays.queued ∙ good.long;
          kept = next-kept room b mark r good.kept;
        }

    -- the rule
    stops-here : stops_at room b mark r ≡ true → Stops room b mark (fed_of r)
    unfolding stops_at
    stops-here e =
        let ends = ltb 0 r.report.ended in
        let lacks = lacks_room (room - replied_length r) b mark r.after r.one r.two in
        let some = ltb-true 0 r.report.ended (and_first ends lacks e) in
        record { before = omega arith; here = rw replied (and_second ends lacks e) }

    goes_here : stops_at room b mark r ≡ false → Stops room b mark (fed_of r) → ⊥
    unfolding stops_at
    goes_here e s =
        let some = s.before in
        let ends = lt-ltb 0 r.report.ended (omega arith) in
        let lacks = rw replied at s.here in
        false≢true (sym e ∙ rw (ends, lacks))

-- ---- the whole run

-- the bytes that a run takes one by one, from r to its end
record Follows (room : ℕ) (mark : Bool) (bytes : List ℕ) (r end : Run) : Type 0 where
  n : ℕ
  count : end.report.taken ≡ r.report.taken + n
  taken : Taken room mark bytes (fed_of r) n (fed_of end)
  good : Good end

module _ (room : ℕ) (mark : Bool) where
  -- the run, by whether it stops
  run_none : (r : Run) → run_from room mark [] r ≡ r
  unfolding run_from
  run_none r = refl

  run-stops : (b : ℕ) (more : List ℕ) (r : Run) → stops_at room b (mark_before mark more) r ≡ true →
      run_from room mark (b ∷ more) r ≡ r
  unfolding run_from
  run-stops b more r e = rw e

  run_goes : (b : ℕ) (more : List ℕ) (r : Run) → stops_at room b (mark_before mark more) r ≡ false →
      run_from room mark (b ∷ more) r ≡ run_from room mark more (next_byte room b (mark_before mark more) r)
  unfolding run_from
  run_goes b more r e = rw e

  one_more : (b : ℕ) (marked : Bool) (r : Run) → (next_byte room b marked r).report.taken ≡ r.report.taken + 1
  unfolding next_byte
  one_more b marked r = refl

  no_byte : (bytes : List ℕ) (r : Run) → Good r → Taken room mark bytes (fed_of r) 0 (fed_of r) →
      Follows room mark bytes r r
  no_byte bytes r g t = record { n = 0; count = omega arith; taken = t; good = g }

  with_byte : (b : ℕ) (more : List ℕ) (r end : Run) → Good r → stops_at room b (mark_before mark more) r ≡ false →
      Follows room mark more (next_byte room b (mark_before mark more) r) end → Follows room mark (b ∷ more) r end
  with_byte b more r end g e f =
      let marked = mark_before mark more in
      let rest = rw (fed-next room r g b marked) at f.taken in
      record {
        n = suc f.n;
        count = simp unary_clauses (omega (arith, f.count, one_more b marked r));
        taken = next b more (fed_of r) f.n (fed_of end) (goes_here room r g b marked e) rest;
        good = f.good;
      }

  follows : (bytes : List ℕ) (r : Run) → Good r → Follows room mark bytes r (run_from room mark bytes r)
  follows [] r g = rw (run_none r) (no_byte [] r g (whole (fed_of r)))
  follows (b ∷ more) r g =
      let marked = mark_before mark more in
      split (stops_at room b marked r)
      (λ e. rw (run-stops b more r e)
      (no_byte (b ∷ more) r g (stopped b more (fed_of r) (stops-here room r g b marked e))))
      (λ e. rw (run_goes b more r e)
      (with_byte b more r _ g e (follows more (next_byte room b marked r) (good_next room r g b marked))))

-- ---- the line of a refusal

-- an answer that is a refusal
abbrev IsRefused : Answer → Type 0
IsRefused (Ok _) = ⊥
IsRefused (Err e) = Unit {0}

-- the first refusal has a line, counted from 1
first-placed : (a : Answer) (line : ℕ) (later : Answer) (before : ℕ) → (IsRefused a → 0 < line) →
    IsRefused (first_answer a later) → 0 < first_line a line later (before + 1)
unfolding first_answer first_line
first-placed (Ok _) line (Ok _) before h i = absurd i
first-placed (Ok _) line (Err e) before h i = omega arith
first-placed (Err e) line later before h i = h tt

module _ (room : ℕ) (mark : Bool) where
  -- a run whose refusal, where there is one, has a line
  abbrev Placed : Run → Type 0
  Placed r = IsRefused r.report.report.answer → 0 < r.report.line

  placed-next : (b : ℕ) (marked : Bool) (r : Run) → Placed r → Placed (next_byte room b marked r)
  unfolding next_byte
  placed-next b marked r h =
      first-placed r.report.report.answer r.report.line
      (byte_received (room - replied_length r) b marked r.after r.one r.two).report.answer r.report.ended h

  placed : (bytes : List ℕ) (r : Run) → Placed r → Placed (run_from room mark bytes r)
  unfolding run_from
  placed [] r h = h
  placed (b ∷ more) r h =
      let marked = mark_before mark more in
      cond_by Placed (stops_at room b marked r) (λ e. h)
      (λ e. placed more (next_byte room b marked r) (placed-next b marked r h))

-- ---- the claim

module _ (room : ℕ) (bytes : List ℕ) (mark : Bool) (m : Module) (one two : List ℕ)
    (goes : guard_of m (length one) (length two) ≡ done) where
  abbrev end : Run
  end = run_from room mark bytes (start_run m one two)

  -- a run that 11 and 9 do not refuse
  let_run : run_call room bytes mark m one two ≡ reported end
  unfolding run_call guarded
  let_run = rw goes

  same : length m.queue.bytes ≡ line_limit →
      SameAsSingly room bytes mark m one two (run_call room bytes mark m one two)
  same long =
      let start : Good (start_run m one two) = record { goes = goes; long = long; kept = omega arith } in
      let f = follows room mark bytes (start_run m one two) start in
      let count : end.report.taken ≡ f.n = f.count ∙ omega arith in
      let many = replied room end f.good in
      rw let_run
      (record {
        fed = fed_of end;
        taken = rw count f.taken;
        after = refl;
        first = refl;
        second = refl;
        room = refl;
        replies = rw many;
        told = sym many;
        answer = refl;
        line = refl;
      })

  line-told : (refusal : Refusal) (p : ℕ) →
      (run_call room bytes mark m one two).report.report.answer ≡ refused_at refusal p →
      0 < (run_call room bytes mark m one two).report.line
  line-told refusal p e =
      let told : end.report.report.answer ≡ refused_at refusal p =
      sym (ap (λ c. c.report.report.answer) let_run) ∙ e in
      rw let_run (placed room mark bytes (start_run m one two) (λ i. absurd i) (subst IsRefused (sym told) tt))

pub runs_are_bytes : RunsAreBytes
runs_are_bytes =
    record {
      same = λ room bytes mark m one two long goes. same room bytes mark m one two goes long;
      placed = λ room bytes mark m one two refusal p goes. line-told room bytes mark m one two goes refusal p;
    }
