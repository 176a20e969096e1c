-- `reply::identity_text` meets its contract: the make, the serial and the version, 27 bytes. Assumes nothing.
use Rattle.reply.proofs.Texts.{says_identity}
use Rattle.reply.proofs.text.identity_text.Goals as goal

pub returns : goal.returns
returns c =
    says_identity _ _ _ _ _ c.empty.ensures
    c.push_all-make.ensures c.push_padded-numbered.ensures c.push_all.ensures
