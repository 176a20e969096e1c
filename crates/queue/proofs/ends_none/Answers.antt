-- `queue::ends_none` meets its contract: no block that is passed ends a line, and what is left decides. Assumes nothing.
use mathlib.Core.Bool.{Bool, true, false, ◌&&◌}
use mathlib.Core.List.{List}
use mathlib.Core.Path.{◌≡◌, sym, ◌∙◌}
use Prim.Native.Nat.{ℕ}
use lib.ListN.{take, drop}
use Rattle.queue.specs.Queue.{no_end}
use Rattle.queue.proofs.Waiting.{no-end_split}
use Rattle.queue.proofs.ends_none.Goals as goal

-- by the block and by what is left behind it
by_block : (port : ℕ) (rest block : List ℕ) (t : Bool) → block ≡ take 16 rest → no_end port block ≡ t → no_end port rest ≡ t && no_end port (drop 16 rest)
by_block port rest block t b n = let h = no-end_split port 16 rest in rw (sym b, n) at h

pub returns-then-not-block_ends_none : goal.returns-then-not-block_ends_none
returns-then-not-block_ends_none c =
    let cut = c.in-Some.ensures.cases in
    let ends = sym c.block_ends_none.ensures ∙ c.if-not-block_ends_none.true in
    sym (by_block c.args.port c.loop-block.rest.now c.in-Some.block.now false cut.1 ends) ∙ c.loop-block.invariant

pub loop-block-preserved : goal.loop-block-preserved
loop-block-preserved c =
    let cut = c.in-Some.ensures.cases in
    let none = sym c.block_ends_none.ensures ∙ c.if-not-block_ends_none.false in
    rw cut.2
    (sym (by_block c.args.port c.loop-block.rest.now c.in-Some.block.now true cut.1 none) ∙ c.loop-block.invariant)
