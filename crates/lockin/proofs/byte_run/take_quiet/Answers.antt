-- `lockin::byte_run::take_quiet` meets its contract: the rest of the run goes on from each byte as from the first.
-- Assumes nothing.
use Prim.Native.Nat.{ℕ, ◌+◌, ◌-◌, ◌<◌}
use mathlib.Core.List.{List}
use mathlib.Core.Path.{◌≡◌, refl, ◌∙◌}
use native.Mathlib.Omega.{arith}
use lib.ListN.{length, take, drop, get_or, length-drop}
use Rattle.std.proofs.lemmas.List.{take_rest, get_or-drop}
use borrow.Author.Rules.{rules}
use Rattle.queue.specs.declared.LineEnd.TheVariants.{Nothing}
use Rattle.queue.specs.Queue.{is_end}
use Rattle.lockin.proofs.NextByte.{quiet_at, counted}
use Rattle.lockin.proofs.byte_run.take_quiet.Goals.{In-loop-b}
use Rattle.lockin.proofs.byte_run.take_quiet.Goals as goal

-- the bytes that the loop goes over, and the one at an index of them
over-rest : (run : List ℕ) (from : ℕ) → length (take (length run - from) (drop from run)) ≡ length run - from
over-rest run from = rw (take_rest run from) (length-drop from run)

item : (run : List ℕ) (from k at : ℕ) → at ≡ from + k → get_or (take (length run - from) (drop from run)) k 0 ≡ get_or run at 0
item run from k at e = rw (take_rest run from, e) (get_or-drop from run k 0)

module _ (c : In-loop-b) where
  inside : c.loop-b.q.taken < length c.args.run.now
  inside = omega (arith, c.loop-b.invariant, over-rest c.args.run.now c.args.before.taken, c.requires)

pub loop-b-init : goal.loop-b-init
loop-b-init c = ((λ room p e. refl), omega arith, c.requires.1)

pub marked_at-marked-requires : goal.marked_at-marked-requires
marked_at-marked-requires c = inside (goal.at.marked_at-marked-requires c).In-loop-b

pub count_end-requires : goal.count_end-requires
count_end-requires c = omega (arith, c.loop-b.invariant, inside (goal.at.count_end-requires c).In-loop-b, c.well_formed)

pub overflow_add-q : goal.overflow_add-q
overflow_add-q c = omega (arith, inside (goal.at.overflow_add-q c).In-loop-b)

pub returns-then-ne : goal.returns-then-ne
returns-then-ne c =
    let inv = c.loop-b.invariant in
    let more = inside (goal.at.returns-then-ne c).In-loop-b in
    record { goes_on = inv.0; onward = (omega (arith, inv), omega (arith, more), inv.2) }

pub loop-b-preserved : goal.loop-b-preserved
loop-b-preserved c =
    let args = c.args in
    let q = c.loop-b.q in
    let inv = c.loop-b.invariant in
    let at = inside (goal.at.loop-b-preserved c).In-loop-b in
    let same = item args.run.now args.before.taken c.loop-b.b-index q.taken inv.1 in
    let nothing : c.step_of-step.result.ending ≡ Nothing = search rules in
    let count = rw same at c.count_end.ensures in (
      (λ room p e. inv.0 room p e ∙ rw (c.store.ensures, same)
          (quiet_at room args.run.now args.mark p c.loop-b.bytes q c.step_of-step.result _ args.port _ e at
          c.marked_at-marked.ensures (rw same at c.step_of-step.ensures) nothing count)),
      omega (arith, inv),
      counted (is_end args.port (get_or args.run.now q.taken 0) c.marked_at-marked.result) count inv.2,
    )

pub returns : goal.returns
returns c =
    let inv = c.loop-b.invariant in
    let rest = over-rest c.args.run.now c.args.before.taken in
    record { goes_on = inv.0; onward = (omega (arith, inv), omega (arith, inv, rest, c.loop-b.auto, c.requires), inv.2) }
