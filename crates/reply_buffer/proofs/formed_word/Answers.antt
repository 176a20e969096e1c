-- `reply_buffer::formed_word` meets its contract: a word is sent as it is, or as its float. Assumes nothing.
use Rattle.reply_buffer.specs.Buffer.{formed}
use Rattle.reply_buffer.proofs.formed_word.Goals as goal

pub returns-in-Words : goal.returns-in-Words
unfolding formed
returns-in-Words c = rw c.in-Words.is

pub returns-in-Floats : goal.returns-in-Floats
unfolding formed
returns-in-Floats c = rw c.in-Floats.is c.float_bits.ensures
