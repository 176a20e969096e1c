-- `number::read` meets its contract. Assumes nothing.
use native.Mathlib.Omega.{arith}
use Rattle.number.specs.Parts.{read_of}
use Rattle.number.proofs.Parsing.{read_is, long_number}
use mathlib.Core.Path.{◌∙◌}
use Rattle.number.proofs.text.read.Goals as goal

pub returns-then-text-gt-TEXT_LIMIT : goal.returns-then-text-gt-TEXT_LIMIT
unfolding read_of
returns-then-text-gt-TEXT_LIMIT c = rw (long_number c.args.text.now (omega arith))

pub returns : goal.returns
returns c =
    c.read_unsigned.ensures
    ∙ rw (c.split_sign-negative.ensures.0, c.split_sign-negative.ensures.1, c.from.ensures)
    (read_is c.args.decimals c.args.text.now)
