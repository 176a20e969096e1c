-- `lockin::poll` meets its contract: by 11. Assumes nothing.
use mathlib.Core.Path.{sym, ap, ◌∙◌}
use Rattle.outcome.specs.Code.{number_of}
use Rattle.lockin.specs.Calls.{poll_call}
use Rattle.lockin.specs.declared.PollResult.{PollResult}
use Rattle.lockin.proofs.poll.Goals as goal

pub returns-then-is_valid-clause-value : goal.returns-then-is_valid-clause-value
unfolding poll_call
returns-then-is_valid-clause-value c =
    let valid = sym c.is_valid.ensures ∙ c.if-is_valid.true in
    simp (c.status_between.ensures, valid)

pub returns-then-is_valid-clause-numbers : goal.returns-then-is_valid-clause-numbers
returns-then-is_valid-clause-numbers c =
    ap (λ (r : PollResult). number_of r.outcome) (returns-then-is_valid-clause-value c)

pub returns-clause-value : goal.returns-clause-value
unfolding poll_call
returns-clause-value c = simp (sym c.is_valid.ensures ∙ c.if-is_valid.false)

pub returns-clause-numbers : goal.returns-clause-numbers
returns-clause-numbers c = ap (λ (r : PollResult). number_of r.outcome) (returns-clause-value c)
