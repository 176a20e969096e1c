-- `format::push_sign` meets its contract: a minus below zero, else nothing. Assumes nothing.
use mathlib.Core.Path.{sym, ◌∙◌}
use borrow.Author.Rules.{rules}
use borrow.Author.Tests.{lt-ltb, le-ltb}
use Rattle.format.specs.Text.{sign}
use Rattle.format.specs.Parts.{bytes_of}
use Rattle.format.proofs.Appended.{added_none, text-length}
use Rattle.format.proofs.push_sign.Goals as goal

pub returns-then-value-bias : goal.returns-then-value-bias
unfolding sign
returns-then-value-bias c =
    let a = c.args in
    c.push.ensures ∙ rw (lt-ltb a.value a.bias c.if-value-bias.true)

pub returns-else-value-bias : goal.returns-else-value-bias
unfolding sign
returns-else-value-bias c =
    let a = c.args in
    let t = a.t in
    rw (le-ltb a.value a.bias c.if-value-bias.false)
    (sym (added_none (bytes_of t) (text-length t.bytes t.len (search rules))))
