-- `line::passed_over` meets its contract: an empty command leaves everything but the count. Assumes nothing.
use mathlib.Core.Path.{ap}
use native.Mathlib.Nat.{add-zero}
use Rattle.std.specs.Prelude.{◌+◌, false}
use Rattle.outcome.specs.Answer.{drops}
use Rattle.line.proofs.Effects.{answer-stays}
use Rattle.line.proofs.passed_over.Goals as goal

pub returns : goal.returns
unfolding drops
returns c one two =
    let p = c.args.p in
    rw (add-zero p.at)
    (ap (λ a. record { state = p.state; at = p.at; answer = a; count = p.count + 1; dropped = false })
    (answer-stays p.answer (p.count + 1)))
