-- `check_input::bytes::Input::take_byte` meets its contract. Assumes nothing.
use mathlib.Core.Path.{sym, ap, ◌∙◌}
use Rattle.check_input.specs.Bytes.{memory}
use Rattle.check_input.proofs.Sequence.{of_script, of_line-one}
use Rattle.check_input.proofs.bytes.Input.take_byte.Goals as goal

pub returns-then-self : goal.returns-then-self
returns-then-self c =
    let a = c.args in
    let h = memory a.self.now a.script.now in
    c.take_script.ensures ∙ sym (of_script a.b h c.if-self.true)

pub returns-else-self : goal.returns-else-self
returns-else-self c =
    let a = c.args in
    let h = memory a.self.now a.script.now in
    ap (λ i. memory i a.script.now) c.take_line_one.ensures ∙ sym (of_line-one a.b h c.if-self.false)
