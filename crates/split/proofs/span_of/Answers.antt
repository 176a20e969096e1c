-- `split::span_of` meets its contract: the first separator, or the end where there is none. Assumes nothing.
use mathlib.Core.Path.{◌≡◌, ◌∙◌}
use Rattle.std.proofs.Common.{rules, tests}
use Rattle.std.proofs.lemmas.Iterator.{YieldsList-from_slice}
use Rattle.std.proofs.lemmas.Iterator.Search.{position_from_yields_List}
use lib.Dec.{eqb}
use Rattle.std.specs.List.{position}
use Rattle.split.proofs.Span.{span_position, span_le}
use Rattle.split.proofs.span_of.Goals as goal

pub returns : goal.returns
returns c =
    let sep = c.args.separator in
    let s = c.args.s.now in
    let p : c.position.result ≡ position (λ b. eqb b sep) s =
    position_from_yields_List (λ b. eqb b sep) _ _ c.position.result c.position.ensures.ran
    (YieldsList-from_slice s (cc)) (λ x b q k. search (rules, tests)) in
    let e = c.unwrap_or.ensures ∙ rw p (span_position sep s) in
    (e, rw e (span_le sep s))
