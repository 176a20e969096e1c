-- A run of bytes, byte by byte: what a byte that ends no line does to it, and what a line writes behind the replies
-- before it. Assumes nothing.
use Prim.Native.Nat.{ℕ, suc, ◌+◌, ◌-◌, ◌<◌, ◌≤◌, min}
use mathlib.Core.Path.{◌≡◌, refl, sym, ap, ◌∙◌}
use mathlib.Core.Bool.{Bool, true, false, cond, ◌&&◌, and-true, and-false}
use mathlib.Core.List.{List, [], ◌∷◌, ◌++◌, append-nil}
use native.Mathlib.Nat.{add-zero}
use native.Mathlib.Numerals.{add-one}
use native.Mathlib.Omega.{arith}
use borrow.Author.Tests.{eqb-true, eqb-false, eq-eqb, ne_eqb}
use lib.Dec.{ltb, eqb}
use lib.ListN.{length, take, drop, get_or, take-append-drop, length-append, length-drop, drop_of_length-le}
use lib.Seq.{drop-cons, length-take-le}
use Rattle.std.specs.Prelude.{Ok, Err}
use Rattle.laws.proofs.Tests.{split, cond_by}
use Rattle.outcome.specs.Answer.{Answer, passed}
use Rattle.queue.specs.Queue.{line_limit, is_end, received_of}
use Rattle.queue.specs.Parts.{queue_of, bytes_with, Describes}
use Rattle.queue.specs.declared.QueueStep.{QueueStep}
use Rattle.queue.specs.declared.LineEnd.{LineEnd}
use Rattle.queue.specs.declared.LineEnd.TheVariants.{Nothing, Line, TooLong}
use Rattle.state.specs.declared.State.{State}
use Rattle.reply_buffer.specs.Buffer.{overwrite}
use Rattle.reply_buffer.specs.After.{Meets}
use Rattle.line.specs.Line.{line_of}
use Rattle.line.proofs.Steps.{part, part_whole, mended}
use Rattle.lockin.specs.Calls.{with_queue, line_end, received_call, byte_received}
use Rattle.lockin.specs.Run.{Run, replied_length, first_answer, first_line, written_behind, next_byte, is_line}
use Rattle.lockin.specs.Run.{lacks_room, stops_at, mark_before, run_from}
use Rattle.lockin.specs.Parts.{result_of, run_at, with_quiet, advanced, Behind}
use Rattle.lockin.proofs.Parts.{within, stored-length}
use Rattle.lockin.specs.declared.StateResult.{StateResult}
use Rattle.lockin.specs.declared.byte_run.QuietBytes.{QuietBytes}
use Rattle.lockin.specs.declared.byte_run.RunProgress.{RunProgress}
use Rattle.module.specs.declared.Module.{Module}

-- ---- answers

-- a byte that is not refused leaves the first refusal and its line as they were
first-passed : (a : Answer) → first_answer a passed ≡ a
unfolding first_answer
first-passed (Ok _) = refl
first-passed (Err e) = refl

line-passed : (a : Answer) (line here : ℕ) → first_line a line passed here ≡ line
unfolding first_line
line-passed (Ok _) line here = refl
line-passed (Err e) line here = refl

-- ---- what is written

-- nothing is written
behind_none : (n : ℕ) (out : List ℕ) → written_behind n [] out ≡ out
unfolding overwrite
behind_none n out = take-append-drop n out

-- ---- one byte of a run

-- the step says what the byte b does to every queue of these numbers on the port
abbrev Step : ℕ → Bool → ℕ → ℕ → Bool → QueueStep → Type 0
Step len discarding port b mark step =
    Describes (λ bytes. received_of (queue_of bytes len discarding) port b mark) len b step

-- what a byte does by itself, by what it does to the queue's numbers
pub received_by : (room b : ℕ) (mark : Bool) (m : Module) (one two : List ℕ) (step : QueueStep) →
    Step m.queue.len m.queue.discarding m.state.installation.port b mark step →
    let stored = bytes_with step.stores m.queue.len b m.queue.bytes in
    byte_received room b mark m one two
    ≡ with_queue (queue_of stored step.len step.discarding)
    (line_end step.ending room (take step.line stored) m.state one two)
unfolding byte_received received_call
received_by room b mark m one two step g =
    let stored = bytes_with step.stores m.queue.len b m.queue.bytes in
    rw (g.received m.queue.bytes, g.run stored)

-- the bytes of a run from an index on
pub at_next : (run : List ℕ) (at : ℕ) → at < length run → drop at run ≡ get_or run at 0 ∷ drop (at + 1) run
at_next run at h = rw add-one (drop-cons run at 0 h)

-- the end mark of a run is on its last byte
mark_on : (mark : Bool) (more : List ℕ) → (mark && eqb (length more) 0) ≡ mark_before mark more
mark_on mark [] = and-true mark
mark_on mark (b ∷ more) = rw (ne_eqb (suc (length more)) 0 (λ z. omega arith)) (and-false mark)

pub mark_at : (run : List ℕ) (mark : Bool) (at : ℕ) → at < length run →
    (mark && eqb (at + 1) (length run)) ≡ mark_before mark (drop (at + 1) run)
mark_at run mark at h =
    ap (λ t. mark && t) (split (eqb (at + 1) (length run)) last inner) ∙ mark_on mark (drop (at + 1) run)
  where
    left : length (drop (at + 1) run) ≡ length run - (at + 1)
    left = length-drop (at + 1) run

    last : eqb (at + 1) (length run) ≡ true → eqb (at + 1) (length run) ≡ eqb (length (drop (at + 1) run)) 0
    last e =
        let same = eqb-true (at + 1) (length run) e in
        e ∙ sym (eq-eqb (length (drop (at + 1) run)) 0 (omega (arith, left)))

    inner : eqb (at + 1) (length run) ≡ false → eqb (at + 1) (length run) ≡ eqb (length (drop (at + 1) run)) 0
    inner e =
        let other = eqb-false (at + 1) (length run) e in
        e ∙ sym (ne_eqb (length (drop (at + 1) run)) 0 (λ z. other (omega (arith, left))))

-- a byte that ends no line: the run does not stop before it, and only the queue and the counts are others
module _ (room b : ℕ) (mark : Bool) (p : Run) (bytes : List ℕ) (q : QuietBytes) (step : QueueStep) (ended : ℕ)
    (g : Step q.len q.discarding p.after.state.installation.port b mark step)
    (nothing : step.ending ≡ Nothing)
    (count : ended ≡ cond (is_end p.after.state.installation.port b mark) (q.ended + 1) q.ended) where
  abbrev here : Run
  here = with_quiet bytes q p

  abbrev next : Run
  next =
      with_quiet (bytes_with step.stores q.len b bytes)
      (record { len = step.len; discarding = step.discarding; taken = q.taken + 1; ended = ended }) p

  goes_on : stops_at room b mark here ≡ false
  unfolding stops_at lacks_room
  goes_on = rw (g.received bytes, nothing) (and-false (ltb 0 q.ended))

  quiet_next : next_byte room b mark here ≡ next
  unfolding next_byte line_end
  quiet_next =
      rw (
        received_by (room - replied_length here) b mark here.after here.one here.two step g,
        nothing,
        behind_none (replied_length here) here.out,
        first-passed,
        line-passed,
        count,
        add-zero,
      )

  -- the rest of the run goes on from there
  pub quiet_more : (last : Bool) (more : List ℕ) → mark ≡ mark_before last more →
      run_from room last (b ∷ more) here ≡ run_from room last more next
  unfolding run_from
  quiet_more last more marked = rw (← marked, goes_on, quiet_next)

-- a byte at an index of a run that ends no line: the run goes on behind it
pub quiet_at : (room : ℕ) (run : List ℕ) (last : Bool) (p : Run) (bytes : List ℕ) (q : QuietBytes) (step : QueueStep)
    (ended port : ℕ) (mark : Bool) →
    p.after.state.installation.port ≡ port → q.taken < length run →
    mark ≡ mark_before last (drop (q.taken + 1) run) →
    Step q.len q.discarding port (get_or run q.taken 0) mark step →
    step.ending ≡ Nothing → ended ≡ cond (is_end port (get_or run q.taken 0) mark) (q.ended + 1) q.ended →
    run_from room last (drop q.taken run) (with_quiet bytes q p)
    ≡ run_from room last (drop (q.taken + 1) run)
    (with_quiet (bytes_with step.stores q.len (get_or run q.taken 0) bytes)
    (record { len = step.len; discarding = step.discarding; taken = q.taken + 1; ended = ended }) p)
quiet_at room run last p bytes q step ended port mark same inside marked g nothing count =
    let b = get_or run q.taken 0 in
    rw (at_next run q.taken inside)
    (quiet_more room b mark p bytes q step ended (rw same g) nothing (rw same count) last (drop (q.taken + 1) run)
    marked)

-- the lines that ended are no more than the bytes taken
pub counted : {ended before taken : ℕ} (t : Bool) → ended ≡ cond t (before + 1) before → before ≤ taken →
    ended ≤ taken + 1
counted true e h = omega arith
counted false e h = omega arith

-- ---- a line that writes behind the replies before it

-- a reply is no longer than the room that it was written to
over-within : (out old : List ℕ) {new : List ℕ} → new ≡ overwrite out old → length new ≡ length old →
    length out ≤ length old
unfolding overwrite
over-within out old e same =
    let long = ap length e ∙ length-append out (drop (length out) old) in omega (arith, long, same)

-- the length reported of a line's end is at most that of what it wrote
pub told-within : (e : LineEnd) (room : ℕ) (text : List ℕ) (s : State) (one two : List ℕ) →
    (line_end e room text s one two).report.length ≤ length (line_end e room text s one two).out
unfolding line_end
told-within Nothing room text s one two = omega arith
told-within Line room text s one two =
    cond_by (λ n. n ≤ length (line_of room text s one two).out) (line_of room text s one two).report.dropped
    (λ e. omega arith) (λ e. omega arith)
told-within TooLong room text s one two = omega arith

-- a line's end that is lent the room from the bytes already written onward
pub ends_behind : (n : ℕ) (e : LineEnd) (text : List ℕ) (s : State) (one two : List ℕ) {r : StateResult}
    {one' two' new old : List ℕ} → n ≤ length old → length new ≡ length (part old n) →
    Meets result_of (line_end e (length (part old n)) text s one two) r one' two' new (part old n) →
    Behind n (line_end e (length old - n) text s one two) r one' two' (mended old n new) old
    × (n + r.report.length ≤ length (mended old n new))
ends_behind n e text s one two {r = r} {new = new} {old = old} h same m =
    let all = part_whole old n h in
    let room : length (part old n) ≡ length old - n = ap length all ∙ length-drop n old in
    let none : drop (length old - n) (drop n old) ≡ [] =
    drop_of_length-le (drop n old) {i = length old - n} (omega (arith, length-drop n old)) in
    let written : mended old n new ≡ take n old ++ new = rw (none, append-nil) in
    let fits = over-within (line_end e (length (part old n)) text s one two).out (part old n) m.reply same in
    let told = told-within e (length (part old n)) text s one two in
    let long : length (mended old n new) ≡ n + length new =
    rw written (length-append (take n old) new ∙ ap (λ k. k + length new) (length-take-le n old h)) in (
      record {
        result = m.result ∙ rw room;
        first = m.first ∙ rw room;
        second = m.second ∙ rw room;
        reply = written ∙ rw (m.reply, room, all);
      },
      rw (m.result, long, same) (omega arith),
    )

-- ---- one more byte of the code's run

module _ (b : ℕ) (mark : Bool) (p : RunProgress) (one two reply : List ℕ) (step : QueueStep) {bytes : List ℕ} {end : ℕ}
    (long : length p.after.queue.bytes ≡ line_limit)
    (g : Step p.after.queue.len p.after.queue.discarding p.after.state.installation.port b mark step)
    (stored : bytes ≡ bytes_with step.stores p.after.queue.len b p.after.queue.bytes)
    (ends : end ≡ min step.line line_limit) where
  -- the line that ends, as the code has it
  text : take end bytes ≡ take step.line bytes
  text =
      let same = stored-length step.stores p.after.queue.len b p.after.queue.bytes in
      let many : length bytes ≡ line_limit = rw stored same ∙ long in
      rw ends (within bytes step.line (omega arith))

  -- the code's test for a stop is the run's
  pub next-stops : {stopped : Bool} →
      ((one two : List ℕ) → stopped ≡ (ltb 0 p.ended
      && (is_line step.ending
      && (line_of (length reply - p.report.length) (take end bytes) p.after.state one two).report.dropped))) →
      stopped ≡ stops_at (length reply) b mark (run_at p one two reply)
  unfolding stops_at lacks_room
  next-stops test = rw (g.received p.after.queue.bytes, ← stored, ← text) (test one two)

  -- the code's parts, each as its function says, leave the run with the byte
  pub next-answers : {r : StateResult} {one' two' new : List ℕ} {ended : ℕ} →
      Behind p.report.length
      (line_end step.ending (length reply - p.report.length) (take end bytes) p.after.state one two)
      r one' two' new reply →
      ended ≡ cond (is_end p.after.state.installation.port b mark) (p.ended + 1) p.ended →
      let m : Module = record { queue = queue_of bytes step.len step.discarding; state = r.state } in
      run_at (advanced p m r.report ended) one' two' new ≡ next_byte (length reply) b mark (run_at p one two reply)
  unfolding next_byte
  next-answers did count =
      rw (
        received_by (length reply - p.report.length) b mark p.after one two step g,
        ← stored,
        ← text,
        did.result,
        did.first,
        did.second,
        did.reply,
        count,
      )
