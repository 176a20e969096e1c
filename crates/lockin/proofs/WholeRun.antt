-- The code's run, whose room is the whole lent one as it stands, is the run of the definition, which speaks of what is
-- written. Assumes nothing.
use Prim.Native.Nat.{ℕ, ◌+◌, ◌-◌, ◌<◌, ◌≤◌}
use mathlib.Core.Path.{◌≡◌, refl, sym, ap, ap₂, ◌∙◌}
use mathlib.Core.Bool.{Bool, true, false, cond}
use mathlib.Core.List.{List, [], ◌∷◌, ◌++◌, append_assoc}
use native.Mathlib.Omega.{arith}
use borrow.Author.Tests.{leb-true, leb-false}
use lib.Dec.{leb}
use lib.ListN.{length, take, drop, get_or, length-append, length-drop, drop_of_length-le}
use lib.Seq.{take-append-le, drop-append-le, drop-append-add, drop-drop, drop-length, length-take-le}
use Rattle.std.specs.Prelude.{Err}
use Rattle.laws.proofs.Tests.{split}
use Rattle.outcome.specs.declared.Refusal.{Refusal}
use Rattle.outcome.specs.Code as outcome
use Rattle.queue.specs.Queue.{waiting_bytes, is_end, received_of}
use Rattle.reply_buffer.specs.Buffer.{overwrite}
use Rattle.reply_buffer.specs.After.{After, Meets}
use Rattle.reply_buffer.proofs.Over.{over_none}
use Rattle.reply_buffer.proofs.After.{silent-meets}
use Rattle.module.specs.Module.{guard_of}
use Rattle.module.specs.declared.Module.{Module}
use Rattle.lockin.specs.Calls.{guarded, received_call, byte_received}
use Rattle.lockin.specs.Run.{Run, replied_length, written_behind, next_byte, lacks_room, stops_at, mark_before}
use Rattle.lockin.specs.Run.{run_from, start_run, run_report, refused_run, run_call, run_result, run_numbers_of}
use Rattle.lockin.specs.Parts.{tally_at, run_at, progress_of, result_at, NextByte}
use Rattle.lockin.specs.declared.byte_run.RunProgress.{RunProgress}
use Rattle.lockin.specs.declared.byte_run.RunReport.{RunReport}
use Rattle.lockin.specs.declared.byte_run.RunResult.{RunResult}
use Rattle.lockin.proofs.NextByte.{told-within, at_next, counted}

-- ---- the whole room

-- a run whose room is `old` but for what it wrote
abbrev onto : List ℕ → Run → Run
onto old r =
    record { after = r.after; one = r.one; two = r.two; out = overwrite r.out old; report = r.report }

-- a reply behind the first n bytes written, in the whole room
module _ (n : ℕ) (reply out old : List ℕ) (h : n ≤ length out) where
  -- what is written, and its length
  abbrev now : List ℕ
  now = take n out ++ (reply ++ drop (length reply) (drop n out))

  now_length : length now ≡ n + (length reply + (length out - n - length reply))
  now_length = simp (length-append, length-take-le n out h, length-drop)

  -- what stood behind the reply, within what was written and past it
  short : n + length reply ≤ length out →
      drop (length reply) (drop n (out ++ drop (length out) old))
      ≡ drop (length reply) (drop n out) ++ drop (length now) old
  short inside =
      let long : length now ≡ length out = now_length ∙ omega arith in
      rw (long, drop-drop, drop-drop) (drop-append-le (n + length reply) out (drop (length out) old) inside)

  past : length out < n + length reply →
      drop (length reply) (drop n (out ++ drop (length out) old))
      ≡ drop (length reply) (drop n out) ++ drop (length now) old
  past outside =
      let more = n + length reply - length out in
      let sum : n + length reply ≡ length out + more = omega arith in
      let long : length now ≡ length out + more = now_length ∙ omega arith in
      let none : drop (n + length reply) out ≡ [] = drop_of_length-le out {i = n + length reply} (omega arith) in
      let rest = drop (length out) old in
      rw (long, drop-drop, drop-drop, none)
      (ap (λ k. drop k (out ++ rest)) sum ∙ drop-append-add out rest more ∙ drop-drop more (length out) old)

  behind_over : written_behind n reply (overwrite out old) ≡ overwrite (written_behind n reply out) old
  unfolding overwrite
  behind_over =
      rw (
        take-append-le n out (drop (length out) old) h,
        split (leb (n + length reply) (length out)) (λ e. short (leb-true _ _ e)) (λ e. past (leb-false _ _ e)),
        append_assoc,
        append_assoc,
      )

-- the length reported is never more than what is written
pub next-kept : (room b : ℕ) (mark : Bool) (r : Run) → replied_length r ≤ length r.out →
    replied_length (next_byte room b mark r) ≤ length (next_byte room b mark r).out
unfolding next_byte byte_received received_call overwrite
next-kept room b mark r h =
    let m = r.after in
    let received = received_of m.queue m.state.installation.port b mark in
    let left = room - replied_length r in
    let told = told-within received.ending left (waiting_bytes received.queue) m.state r.one r.two in
    simp (length-append, length-take-le (replied_length r) r.out h) (omega arith)

module _ (room : ℕ) (old : List ℕ) where
  onto_stops : (b : ℕ) (mark : Bool) (r : Run) → stops_at room b mark (onto old r) ≡ stops_at room b mark r
  unfolding stops_at lacks_room
  onto_stops b mark r = refl

  onto_next : (b : ℕ) (mark : Bool) (r : Run) → replied_length r ≤ length r.out →
      next_byte room b mark (onto old r) ≡ onto old (next_byte room b mark r)
  unfolding next_byte
  onto_next b mark r h =
      let c = byte_received (room - replied_length r) b mark r.after r.one r.two in
      rw (behind_over (replied_length r) c.out r.out old h)

  -- a function of one of two values
  push : {A B : Type 0} (f : A → B) (t : Bool) (a b : A) → cond t (f a) (f b) ≡ f (cond t a b)
  push f true a b = refl
  push f false a b = refl

  -- the run in the whole room, one byte more
  onto_more : (mark : Bool) (b : ℕ) (more : List ℕ) (r : Run) → replied_length r ≤ length r.out →
      let next = next_byte room b (mark_before mark more) r in
      run_from room mark more (onto old next) ≡ onto old (run_from room mark more next) →
      run_from room mark (b ∷ more) (onto old r) ≡ onto old (run_from room mark (b ∷ more) r)
  unfolding run_from
  onto_more mark b more r h same =
      let marked = mark_before mark more in
      let rest : Run = run_from room mark more (next_byte room b marked (onto old r)) in
      ap (λ t. cond t (onto old r) rest) (onto_stops b marked r)
      ∙ ap (λ x. cond (stops_at room b marked r) (onto old r) x)
      (ap (run_from room mark more) (onto_next b marked r h) ∙ same)
      ∙ push (onto old) (stops_at room b marked r) r (run_from room mark more (next_byte room b marked r))

  onto_none : (mark : Bool) (r : Run) → run_from room mark [] (onto old r) ≡ onto old (run_from room mark [] r)
  unfolding run_from
  onto_none mark r = refl

  pub onto_run : (mark : Bool) (bytes : List ℕ) (r : Run) → replied_length r ≤ length r.out →
      run_from room mark bytes (onto old r) ≡ onto old (run_from room mark bytes r)
  onto_run mark [] r h = onto_none mark r
  onto_run mark (b ∷ more) r h =
      let marked = mark_before mark more in
      onto_more mark b more r h (onto_run mark more (next_byte room b marked r) (next-kept room b marked r h))

-- ---- the loop of the code

-- what is left of the run does from here what the whole does from the start
pub record OnRun (run : List ℕ) (mark : Bool) (one₀ two₀ reply₀ : List ℕ) (p₀ : RunProgress) (one two reply : List ℕ)
    (p : RunProgress) : Type 0
  where
    pub inside : p.taken ≤ length run
    pub ended : p.ended ≤ p.taken
    pub same : run_from (length reply₀) mark run (run_at p₀ one₀ two₀ reply₀)
        ≡ run_from (length reply₀) mark (drop p.taken run) (run_at p one two reply)
    pub fits : p.report.length ≤ length reply
    pub long : length reply ≡ length reply₀
    pub long-one : length one ≡ length one₀
    pub long-two : length two ≡ length two₀

-- the run before its first byte, in the whole room
onto_start : (m : Module) (one two reply : List ℕ) →
    onto reply (start_run m one two) ≡ run_at (progress_of (start_run m one two)) one two reply
onto_start m one two reply = rw (over_none reply)

-- a run that is over, in the whole room, is what the definition gives
pub over : (run : List ℕ) (mark : Bool) (m : Module) (one₀ two₀ reply₀ one two reply : List ℕ) (p : RunProgress) →
    run_from (length reply₀) mark run (run_at (progress_of (start_run m one₀ two₀)) one₀ two₀ reply₀)
    ≡ run_at p one two reply →
    Meets progress_of (run_from (length reply₀) mark run (start_run m one₀ two₀)) p one two reply reply₀
over run mark m one₀ two₀ reply₀ one two reply p e =
    let whole : onto reply₀ (run_from (length reply₀) mark run (start_run m one₀ two₀)) ≡ run_at p one two reply =
    sym (onto_run (length reply₀) reply₀ mark run (start_run m one₀ two₀) (omega arith))
    ∙ ap (run_from (length reply₀) mark run) (onto_start m one₀ two₀ reply₀)
    ∙ e in
    record {
      result = sym (ap progress_of whole);
      first = sym (ap (λ r. r.one) whole);
      second = sym (ap (λ r. r.two) whole);
      reply = sym (ap (λ r. r.out) whole);
    }

module _ {run : List ℕ} {mark : Bool} {one₀ two₀ reply₀ : List ℕ} {p₀ : RunProgress} {one two reply : List ℕ}
    {p : RunProgress} (v : OnRun run mark one₀ two₀ reply₀ p₀ one two reply p)
    (q : RunProgress)
    (quiet : (room : ℕ) (one two out : List ℕ) → run_from room mark (drop p.taken run) (run_at p one two out)
    ≡ run_from room mark (drop q.taken run) (run_at q one two out)) where
  -- no byte is left
  pub all_taken : q.taken ≡ length run →
      run_from (length reply₀) mark run (run_at p₀ one₀ two₀ reply₀) ≡ run_at q one two reply
  unfolding run_from
  all_taken e =
      v.same ∙ quiet (length reply₀) one two reply
      ∙ ap (λ l. run_from (length reply₀) mark l (run_at q one two reply)) (ap (λ n. drop n run) e ∙ drop-length run)

  -- one more byte
  module _ {b : ℕ} {marked stopped : Bool} {n : RunProgress} {one' two' reply' : List ℕ} (h : q.taken < length run)
      (byte : b ≡ get_or run q.taken 0) (is-marked : marked ≡ mark_before mark (drop (q.taken + 1) run))
      (step : NextByte (length reply) b marked (run_at q one two reply) stopped (run_at n one' two' reply')) where
    turned : run_from (length reply₀) mark run (run_at p₀ one₀ two₀ reply₀)
        ≡ cond stopped (run_at q one two reply)
        (run_from (length reply₀) mark (drop (q.taken + 1) run)
        (next_byte (length reply₀) b marked (run_at q one two reply)))
    unfolding run_from
    turned =
        v.same ∙ quiet (length reply₀) one two reply
        ∙ ap (λ l. run_from (length reply₀) mark l (run_at q one two reply)) (at_next run q.taken h)
        ∙ rw (step.stops, v.long, is-marked, byte)

    -- the run after the byte, by whether it stops before it
    after-byte : (t : Bool) → stopped ≡ t →
        run_at n one' two' reply'
        ≡ cond t (run_at q one two reply) (next_byte (length reply) b marked (run_at q one two reply))
    after-byte t e =
        step.run
        ∙ ap (λ t. cond t (run_at q one two reply) (next_byte (length reply) b marked (run_at q one two reply))) e

    pub stopped-run : stopped ≡ true →
        run_from (length reply₀) mark run (run_at p₀ one₀ two₀ reply₀) ≡ run_at n one' two' reply'
    stopped-run e = rw (after-byte true e, turned, e)

    module _ (goes : stopped ≡ false) where
      -- the run with the byte
      with_byte : run_at n one' two' reply' ≡ next_byte (length reply₀) b marked (run_at q one two reply)
      with_byte = after-byte false goes ∙ ap (λ k. next_byte k b marked (run_at q one two reply)) v.long

      pub one_more : n.taken ≡ q.taken + 1
      unfolding next_byte
      one_more = ap (λ r. r.report.taken) with_byte

      ends_more : n.ended ≡ cond (is_end q.after.state.installation.port b marked) (q.ended + 1) q.ended
      unfolding next_byte
      ends_more = ap (λ r. r.report.ended) with_byte

      went_on : cond stopped (run_at q one two reply)
          (run_from (length reply₀) mark (drop (q.taken + 1) run)
          (next_byte (length reply₀) b marked (run_at q one two reply)))
          ≡ run_from (length reply₀) mark (drop n.taken run) (run_at n one' two' reply')
      went_on =
          rw goes
          (ap₂ (λ k (r : Run). run_from (length reply₀) mark (drop k run) r) (sym one_more) (sym with_byte))

      pub again : q.ended ≤ q.taken → n.report.length ≤ length reply' → length reply' ≡ length reply →
          length one' ≡ length one → length two' ≡ length two → OnRun run mark one₀ two₀ reply₀ p₀ one' two' reply' n
      again few fits x y z =
          record {
            inside = omega (arith, one_more);
            ended = rw one_more (counted (is_end q.after.state.installation.port b marked) ends_more few);
            same = turned ∙ went_on;
            fits = fits;
            long = x ∙ v.long;
            long-one = y ∙ v.long-one;
            long-two = z ∙ v.long-two;
          }

-- ---- the call

-- what `lockin::take_run` promises of a call
abbrev RunAnswers : After Module RunReport → RunResult → List ℕ → List ℕ → List ℕ → List ℕ → Type 0
RunAnswers c r one two new old =
    Meets run_result c r one two new old × (run_numbers_of r.report ≡ run_numbers_of c.report)

module _ (bytes : List ℕ) (mark : Bool) (m : Module) (one two : List ℕ) where
  -- a run that 11 and 9 let be done
  pub run-answers : {p : RunProgress} {one' two' new old : List ℕ} →
      guard_of m (length one) (length two) ≡ outcome.done →
      Meets progress_of (run_from (length old) mark bytes (start_run m one two)) p one' two' new old →
      RunAnswers (run_call (length old) bytes mark m one two) (result_at p) one' two' new old
  unfolding run_call guarded
  run-answers done h =
      rw done (
        record { result = ap result_at h.result; first = h.first; second = h.second; reply = h.reply },
        ap (λ p. run_numbers_of (run_report (tally_at p))) h.result,
      )

  -- one that 11 or 9 refuses
  pub run-refused : {refusal : Refusal} (old : List ℕ) →
      guard_of m (length one) (length two) ≡ Err refusal →
      RunAnswers (run_call (length old) bytes mark m one two) (record { after = m; report = refused_run refusal })
      one two old old
  unfolding run_call guarded
  run-refused old refused = rw refused (silent-meets run_result _ _ _ _ _, refl)
