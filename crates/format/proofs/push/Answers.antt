-- `format::push` meets its contract: a full text stays, any other has one byte more. Assumes nothing.
use mathlib.Core.Path.{◌≡◌, sym}
use mathlib.Core.List.{[], ◌∷◌}
use native.Mathlib.Omega.{arith}
use lib.ListN.{length}
use lib.Seq.{take_all}
use borrow.Author.Rules.{rules}
use Rattle.format.proofs.Appended.{added_full, added_store}
use Rattle.format.proofs.push.Goals as goal

pub returns-then-t-ge-LIMIT : goal.returns-then-t-ge-LIMIT
returns-then-t-ge-LIMIT c =
    let t = c.args.t in
    let h : length t.bytes ≡ 32 = search rules in
    rw (take_all t.len t.bytes (omega arith)) (sym (added_full t.bytes (c.args.b ∷ []) h))

pub returns : goal.returns
returns c =
    let t = c.args.t in
    let h : length t.bytes ≡ 32 = search rules in
    added_store t.bytes t.len c.args.b h (omega arith)
