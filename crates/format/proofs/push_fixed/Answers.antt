-- `format::push_fixed` meets its contract: with no decimals the plain number, else the whole part, the point and the
-- decimals. Assumes nothing.
use mathlib.Core.Path.{◌∙◌}
use Rattle.format.specs.Parts.{bytes_of}
use Rattle.format.proofs.Value.{fixed_plain, fixed_added}
use Rattle.format.proofs.push_fixed.Goals as goal

pub returns-then-decimals-eq0 : goal.returns-then-decimals-eq0
returns-then-decimals-eq0 c =
    let a = c.args in
    c.push_plain.ensures ∙ rw (fixed_plain a.decimals a.value c.if-decimals-eq0.true)

pub returns : goal.returns
returns c =
    let a = c.args in
    fixed_added (bytes_of a.t) a.decimals a.value c.if-decimals-eq0.false
    (c.push_plain-whole.ensures ∙ rw c.whole_part.ensures)
    c.push-pointed.ensures
    c.push_padded.ensures
