-- `lockin::byte_run::next_byte` meets its contract: its parts leave the run with the byte, or as it was. Assumes
-- nothing.
use Prim.Native.Nat.{ℕ}
use mathlib.Core.Path.{◌≡◌, refl, sym, ◌∙◌}
use mathlib.Core.List.{List}
use native.Mathlib.Nat.{sub-zero}
use native.Mathlib.Omega.{arith}
use lib.ListN.{length}
use borrow.Author.Rules.{rules}
use Rattle.queue.specs.Queue.{line_limit}
use Rattle.queue.specs.Parts.{bytes_with}
use Rattle.queue.specs.declared.QueueStep.{QueueStep}
use Rattle.lockin.proofs.Parts.{stored-length}
use Rattle.lockin.proofs.NextByte.{next-stops, next-answers}
use Rattle.lockin.proofs.byte_run.next_byte.Goals.{Start}
use Rattle.lockin.proofs.byte_run.next_byte.Goals as goal

-- the queue of a module has room for 256 bytes
long : (start : Start) → length start.args.p.after.queue.bytes ≡ line_limit
long start = search rules

-- the queue's bytes once the byte is stored are as many
abbrev Stored : Start → QueueStep → List ℕ → Type 0
Stored start step bytes =
    let q = start.args.p.after.queue in bytes ≡ bytes_with step.stores q.len start.args.b q.bytes

many : (start : Start) (step : QueueStep) (bytes : List ℕ) → Stored start step bytes → length bytes ≡ line_limit
many start step bytes stored =
    let q = start.args.p.after.queue in
    rw stored (stored-length step.stores q.len start.args.b q.bytes ∙ long start)

pub slice_bounds-stops-end : goal.slice_bounds-stops-end
slice_bounds-stops-end c =
    let stored = many (goal.at.slice_bounds-stops-end c).Start c.step_of-step.result _ c.store.ensures in
    omega (arith, c.end_index-end.ensures)

pub returns-then-stops : goal.returns-then-stops
returns-then-stops c =
    let a = c.args in
    let test = next-stops a.b a.mark a.p a.one.now a.two.now a.reply.now c.step_of-step.result
    (long (goal.at.returns-then-stops c).Start) c.step_of-step.ensures c.store.ensures c.end_index-end.ensures
    (rw (sub-zero c.end_index-end.result) at c.stops.ensures) in record
    { next_byte = record { stops = sym c.if-stops.true ∙ test; run = refl }; length_in_bounds = c.requires.0 }

pub slice_bounds-end_behind-end : goal.slice_bounds-end_behind-end
slice_bounds-end_behind-end c =
    let stored = many (goal.at.slice_bounds-end_behind-end c).Start c.step_of-step.result _ c.store.ensures in
    omega (arith, c.end_index-end.ensures)

pub count_end-requires : goal.count_end-requires
count_end-requires c = omega (arith, c.requires.1, c.requires.2)

pub advance-requires : goal.advance-requires
advance-requires c =
    let fits = c.end_behind-r.ensures.length_in_bounds in
    let room = c.end_behind-r.auto.reply in (
      omega (arith, fits, room, c.well_formed.1.1.1.1.1.0.1),
      c.requires.1,
      c.requires.2,
    )

pub returns : goal.returns
returns c =
    let a = c.args in
    let text = sub-zero c.end_index-end.result in
    let test = next-stops a.b a.mark a.p a.one.now a.two.now a.reply.now c.step_of-step.result
    (long (goal.at.returns c).Start) c.step_of-step.ensures c.store.ensures c.end_index-end.ensures
    (rw text at c.stops.ensures) in
    let next = next-answers a.b a.mark a.p a.one.now a.two.now a.reply.now c.step_of-step.result
    (long (goal.at.returns c).Start) c.step_of-step.ensures c.store.ensures c.end_index-end.ensures
    (rw text at c.end_behind-r.ensures.behind) c.count_end.ensures in
    rw c.advance.ensures
    (record
    { next_byte = record { stops = sym c.if-stops.false ∙ test; run = next }; length_in_bounds = c.end_behind-r.ensures.length_in_bounds })
