-- `lockin::end_line` meets its contract: by what ended. Assumes nothing.
use Rattle.reply_buffer.proofs.After.{silent-meets}
use Rattle.lockin.specs.Calls.{line_end}
use Rattle.lockin.specs.Parts.{result_of}
use Rattle.lockin.proofs.end_line.Goals as goal

pub returns-in-Nothing : goal.returns-in-Nothing
unfolding line_end
returns-in-Nothing c = rw (c.tell.ensures, c.in-Nothing.is) (silent-meets result_of _ _ _ _ _)

pub returns-in-Line : goal.returns-in-Line
unfolding line_end
returns-in-Line c = rw c.in-Line.is c.run.ensures

pub returns-in-TooLong : goal.returns-in-TooLong
unfolding line_end
returns-in-TooLong c =
    rw (c.tell-in-TooLong.ensures, c.with_error_bit.ensures, c.in-TooLong.is)
    (silent-meets result_of _ _ _ _ _)
