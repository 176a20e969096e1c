-- `reply::plain_text` meets its contract: a plain number takes 10 bytes at most. Assumes nothing.
use native.Mathlib.Omega.{arith}
use Rattle.reply.proofs.Texts.{plain-short, says_all}
use borrow.Author.Rules.{rules}
use Rattle.reply.proofs.text.plain_text.Goals as goal

pub returns : goal.returns
returns c = says_all 10 _ _ _ c.push_plain.ensures c.empty.ensures (plain-short _ (search rules)) (omega arith)
