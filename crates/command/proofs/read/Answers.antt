-- `command::read` meets its contract: of a name that is known, as what follows it is read; of another, by refusal 1.
-- Assumes nothing.
use mathlib.Core.Path.{◌≡◌, ◌∙◌}
use native.Mathlib.Omega.{arith}
use Rattle.std.proofs.lemmas.Option.{MatchOption-at_some, MatchOption-at_none}
use Rattle.std.proofs.lemmas.Result.{err_from_is_err_and}
use Rattle.outcome.specs.declared.Refusal.TheVariants.{Malformed}
use Rattle.command.proofs.Name.{no_name, query_name, set_name}
use Rattle.command.proofs.read.Goals as goal

pub returns-in_err-meaning : goal.returns-in_err-meaning
returns-in_err-meaning c =
    let parts = MatchOption-at_some _ _ _ c.in_ok-name.ensures.ok_part c.split_first_chunk.ensures.cases in
    let p = err_from_is_err_and c.from_residual-in_err-meaning.result c.from_residual-in_err-meaning.ensures.1 in
    let none = c.in_err-meaning.ensures in
    let refusal = rw none.ok_part at none.value in
    let first : c.in_err-meaning.field-0.0 ≡ Malformed = cc in
    rw (p.1, p.2, first)
    (no_name c.args.text.now _ _ (λ i. omega (arith, c.type_inv.text i)) c.find.result
    (rw c.from_be_bytes.ensures at c.find.ensures) parts none.ok_part)

pub returns-in-Some : goal.returns-in-Some
returns-in-Some c =
    let parts = MatchOption-at_some _ _ _ c.in_ok-name.ensures.ok_part c.split_first_chunk.ensures.cases in
    let mark = c.in-Some.ensures.cases in
    (rw mark.1 at c.query_with.ensures)
    ∙ query_name c.args.text.now _ _ (λ i. omega (arith, c.type_inv.text i)) c.find.result
    (rw c.from_be_bytes.ensures at c.find.ensures) parts
    c.in_ok-meaning.meaning c.in_ok-meaning.ensures.ok_part mark.0

pub returns-in-None : goal.returns-in-None
returns-in-None c =
    let parts = MatchOption-at_some _ _ _ c.in_ok-name.ensures.ok_part c.split_first_chunk.ensures.cases in
    let mark = MatchOption-at_none _ _ c.in-None.is c.strip_prefix.ensures.cases in
    c.set_with.ensures
    ∙ set_name c.args.text.now _ _ (λ i. omega (arith, c.type_inv.text i)) c.find.result
    (rw c.from_be_bytes.ensures at c.find.ensures) parts
    c.in_ok-meaning.meaning c.in_ok-meaning.ensures.ok_part mark
