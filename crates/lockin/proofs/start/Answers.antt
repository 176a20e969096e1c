-- `lockin::start` meets its contract: 10, then 9. Assumes nothing.
use mathlib.Core.Path.{sym, ap, ◌∙◌}
use Rattle.outcome.specs.Code.{number_of}
use Rattle.module.proofs.Bounds.{port_small, capacity_small}
use Rattle.lockin.specs.Start.{start_call}
use Rattle.lockin.specs.declared.StartResult.{StartResult}
use Rattle.lockin.proofs.start.Goals as goal

pub returns-then-traces_fit-clause-value : goal.returns-then-traces_fit-clause-value
unfolding start_call
returns-then-traces_fit-clause-value c =
    let u = sym c.installation_known.ensures ∙ c.if-installation_known.true in
    let t = sym c.traces_fit.ensures ∙ c.if-traces_fit.true in
    rw (c.fresh.ensures, u, t, port_small _ _ u, capacity_small _ _ t)

pub returns-then-traces_fit-clause-numbers : goal.returns-then-traces_fit-clause-numbers
returns-then-traces_fit-clause-numbers c =
    ap (λ (r : StartResult). number_of r.outcome) (returns-then-traces_fit-clause-value c)

pub returns-then-installation_known-clause-value : goal.returns-then-installation_known-clause-value
unfolding start_call
returns-then-installation_known-clause-value c =
    let u = sym c.installation_known.ensures ∙ c.if-installation_known.true in
    rw (c.refused_start.ensures, u, sym c.traces_fit.ensures ∙ c.if-traces_fit.false)

pub returns-then-installation_known-clause-numbers : goal.returns-then-installation_known-clause-numbers
returns-then-installation_known-clause-numbers c =
    ap (λ (r : StartResult). number_of r.outcome) (returns-then-installation_known-clause-value c)

pub returns-clause-value : goal.returns-clause-value
unfolding start_call
returns-clause-value c =
    rw (c.refused_start-2.ensures, sym c.installation_known.ensures ∙ c.if-installation_known.false)

pub returns-clause-numbers : goal.returns-clause-numbers
returns-clause-numbers c = ap (λ (r : StartResult). number_of r.outcome) (returns-clause-value c)
