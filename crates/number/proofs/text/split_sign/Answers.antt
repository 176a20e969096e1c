-- `number::split_sign` meets its contract. Assumes nothing.
use native.Mathlib.Omega.{arith}
use Rattle.split.proofs.Span.{rest_from}
use Rattle.std.proofs.lemmas.Grind.{common_steps}
use Rattle.number.specs.Number.{begins, unsigned}
use Rattle.number.proofs.Parsing.{sign-minus, sign-plus}
use Rattle.number.proofs.text.split_sign.Goals as goal

pub returns-in-45 : goal.returns-in-45
returns-in-45 c = rw (rest_from c.args.text.now 1) (sign-minus c.args.text.now c.in-45.len_at_least (omega arith))

pub returns-in-43 : goal.returns-in-43
returns-in-43 c = rw (rest_from c.args.text.now 1) (sign-plus c.args.text.now c.in-43.len_at_least (omega arith))

pub returns-in_default : goal.returns-in_default
unfolding begins unsigned
returns-in_default c = grind (arith, common_steps)
