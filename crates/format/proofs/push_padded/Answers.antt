-- `format::push_padded` meets its contract: the digits left to write, added to the text so far, make what all of them
-- make. Assumes nothing.
use mathlib.Core.Path.{◌≡◌, refl, sym, ◌∙◌}
use native.Mathlib.Omega.{arith}
use borrow.Author.Rules.{rules}
use Rattle.format.specs.Parts.{bytes_of}
use Rattle.format.proofs.Appended.{added_none, added_length, text-length}
use Rattle.format.proofs.Digits.{padded-empty, padded_added}
use Rattle.format.proofs.push_padded.Goals as goal

pub loop-position-init : goal.loop-position-init
loop-position-init c =
    let t = c.args.t in
    (text-length t.bytes t.len (search rules), refl)

pub loop-position-preserved : goal.loop-position-preserved
loop-position-preserved c =
    let v = c.loop-position in
    let e = c.push-text.ensures in (
      rw e (added_length (bytes_of v.text) _),
      v.invariant.1
          ∙ padded_added (bytes_of v.text) (bytes_of c.push-text.result) v.position c.args.value (omega arith) (e ∙ rw c.digit.ensures),
    )

pub returns : goal.returns
returns c =
    let v = c.loop-position in
    let e : v.position ≡ 0 = omega arith in
    sym (v.invariant.1 ∙ rw (e, padded-empty) (added_none (bytes_of v.text) v.invariant.0))
