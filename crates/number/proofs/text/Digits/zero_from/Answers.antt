-- `number::Digits::zero_from` meets its contract. Assumes nothing.
use mathlib.Core.Path.{◌∙◌}
use lib.Dec.{eqb}
use Rattle.std.proofs.Common.{rules, tests}
use Rattle.std.proofs.lemmas.Iterator.{YieldsList-from_slice}
use Rattle.std.proofs.lemmas.Iterator.Adapters.{YieldsList-from_skip}
use Rattle.std.proofs.lemmas.Iterator.Consumers.{YieldsList-from_chain}
use Rattle.std.proofs.lemmas.Iterator.Search.{all_from_yields_List}
use Rattle.number.specs.Number.{digit_zero}
use Rattle.number.proofs.Scan.{zeros_all}
use Rattle.number.proofs.text.Digits.zero_from.Goals as goal

pub returns : goal.returns
returns c =
    let a = c.args in
    all_from_yields_List (λ b. eqb b digit_zero) _ _ c.all.result c.all.ensures.ran
    (YieldsList-from_skip a.from
    (YieldsList-from_chain (YieldsList-from_slice a.self.front.now (cc)) (YieldsList-from_slice a.self.back.now (cc)) (cc) (cc))
    (cc))
    (λ x b q k. search (rules, tests))
    ∙ zeros_all _
