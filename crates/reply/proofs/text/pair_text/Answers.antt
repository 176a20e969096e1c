-- `reply::pair_text` meets its contract: the text of the first value, then the second behind a comma. Assumes
-- nothing.
use native.Mathlib.Omega.{arith}
use Rattle.reply.specs.Text.{pair_text}
use Rattle.reply.proofs.Texts.{value-length, says_more, says_as}
use borrow.Author.Rules.{rules}
use Rattle.reply.proofs.text.pair_text.Goals as goal

pub returns : goal.returns
unfolding pair_text
returns c =
    let second = c.next_entry-second in
    let now = c.value_now in
    let e = rw c.row_of-row.ensures at c.push_next.ensures in
    says_as 25
    (says_more 25 _ _ _ e (omega (arith, c.value_text.ensures.1, value-length second.result now.result (search rules)))
    (omega arith))
    (omega arith)
    (rw (c.value_text.ensures.0, now.ensures, second.ensures))
