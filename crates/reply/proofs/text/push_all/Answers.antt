-- `reply::push_all` meets its contract: the text so far is the text at first with the bytes passed. Assumes
-- nothing.
use mathlib.Core.Path.{sym, ◌∙◌}
use native.Mathlib.Omega.{arith}
use lib.Seq.{take_all}
use borrow.Author.Rules.{rules}
use Rattle.format.specs.Parts.{bytes_of}
use Rattle.format.proofs.Appended.{added_none, text-length}
use Rattle.reply.proofs.Texts.{added_more}
use Rattle.reply.proofs.text.push_all.Goals as goal

pub loop-b-init : goal.loop-b-init
loop-b-init c =
    let t = c.args.t in
    sym (added_none (bytes_of t) (text-length t.bytes t.len (search rules)))

pub loop-b-preserved : goal.loop-b-preserved
loop-b-preserved c =
    let v = c.loop-b in
    let bytes = c.args.bytes.now in
    c.push-text.ensures ∙ rw v.invariant (added_more _ bytes v.b-index (omega arith))

pub returns : goal.returns
returns c =
    let v = c.loop-b in
    let bytes = c.args.bytes.now in
    v.invariant ∙ rw (take_all v.b-index bytes (omega arith))
