-- `reply::terminated_text` meets its contract: the text, then the end of its port. Assumes nothing.
use Rattle.reply.proofs.Sends.{says-ended}
use Rattle.reply.proofs.text.terminated_text.Goals as goal

pub returns : goal.returns
returns c =
    let a = c.args in
    says-ended a.q a.s a.waiting _ _ _ c.text_of.ensures c.terminator_of.ensures c.push.ensures
