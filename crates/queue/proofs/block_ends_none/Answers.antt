-- `queue::block_ends_none` meets its contract: the test so far is that of the bytes so far. Assumes nothing.
use Rattle.std.proofs.Common.{◌≡◌, refl, ◌∙◌, ℕ, Bool, true, not, ◌&&◌, List, [], ◌∷◌, ◌++◌, rules}
use mathlib.Core.Bool.{and-true}
use Rattle.std.proofs.lemmas.Iterator.{YieldsList-from_slice}
use Rattle.std.proofs.lemmas.Fn.{fold_over, fronts}
use Rattle.queue.specs.Queue.{ends_line, no_end}
use Rattle.queue.proofs.Waiting.{no-end_append}
use Rattle.queue.proofs.block_ends_none.Goals as goal

one_more : (port : ℕ) (ys : List ℕ) (none : Bool) (x : ℕ) → none ≡ no_end port ys → none && not (ends_line port x) ≡ no_end port (ys ++ (x ∷ []))
unfolding no_end
one_more port ys none x k = rw (k, no-end_append port ys (x ∷ []), and-true (not (ends_line port x)))

pub returns : goal.returns
unfolding no_end
returns c =
    fold_over fronts (λ y. y.now) _ (λ ys none. none ≡ no_end c.args.port ys) _
    (λ ys none x more f k called. ((search rules) ∙ one_more c.args.port ys none x.now k, search rules))
    _ c.args.block.now true c.fold.result (YieldsList-from_slice c.args.block.now cc).runs refl c.fold.ensures.ran
