-- `reply::value_text` meets its contract: the text of the value by its row, which takes 12 bytes at most. Assumes
-- nothing.
use native.Mathlib.Omega.{arith}
use Rattle.reply.specs.Text.{value_text}
use Rattle.reply.proofs.Texts.{value-length, says_all}
use borrow.Author.Rules.{rules}
use Rattle.reply.proofs.text.value_text.Goals as goal

pub returns : goal.returns
unfolding value_text
returns c =
    let e = rw (c.value_now.ensures, c.row_of-row.ensures)
    at c.push_value.ensures in
    says_all 12 _ _ _ e c.empty.ensures
    (value-length _ _ (rw (← c.value_now.ensures) (search rules))) (omega arith)
