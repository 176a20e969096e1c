-- `reply_buffer::word_at` meets its contract: the word of the place's slot, 0 of an empty trace. Assumes nothing.
use mathlib.Core.Path.{◌≡◌, ap, ◌∙◌}
use borrow.Author.Rules.{rules}
use lib.ListN.{get_or}
use Rattle.reply_buffer.proofs.Points.{word_slot}
use Rattle.reply_buffer.proofs.word_at.Goals as goal

pub returns : goal.returns
returns c =
    let a = c.args in
    let read : c.unwrap_or.result ≡ get_or a.trace.now c.slot_of.result 0 = search rules in
    read ∙ ap (λ i. get_or a.trace.now i 0) c.slot_of.ensures.value ∙ word_slot a.trace.now a.place
