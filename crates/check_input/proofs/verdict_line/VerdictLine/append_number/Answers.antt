-- `check_input::verdict_line::VerdictLine::append_number` meets its contract. Assumes nothing.
use mathlib.Core.Path.{◌∙◌}
use mathlib.Core.List.{[], ◌∷◌, append_assoc}
use native.Mathlib.Omega.{arith}
use Rattle.format.specs.Text.{plain}
use Rattle.check_input.specs.VerdictLine.{line_bytes}
use Rattle.check_input.proofs.Decimal.{decimal_writes}
use borrow.Author.Rules.{rules}
use Rattle.check_input.proofs.verdict_line.VerdictLine.append_number.Goals as goal

pub returns : goal.returns
returns c =
    let a = c.args in
    let d = c.decimal-n in
    let w = decimal_writes a.value d.result _ (search rules) d.ensures.len d.ensures.digits in (
      c.append-2.ensures.0
          ∙ rw (c.append.ensures.0, w.shows)
          (append_assoc (line_bytes a.self.now) (32 ∷ []) (plain a.value)),
      omega (arith, w.few),
    )
