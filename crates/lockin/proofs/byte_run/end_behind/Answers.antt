-- `lockin::byte_run::end_behind` meets its contract: the line is lent the room from the bytes already written onward.
-- Assumes nothing.
use Rattle.lockin.proofs.NextByte.{ends_behind}
use Rattle.lockin.proofs.byte_run.end_behind.Goals as goal

pub returns : goal.returns
returns c =
    let args = c.args in
    let each =
    ends_behind args.written args.ending _ args.s _ _ c.requires.1 c.end_line.auto.reply c.end_line.ensures in
    record { behind = each.0; length_in_bounds = each.1 }
