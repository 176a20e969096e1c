-- `module::traces_fit` meets its contract. Assumes nothing.
use Rattle.std.proofs.Common.{rules}
use Rattle.module.specs.Start.{traces_fit}
use Rattle.module.proofs.traces_fit.Goals as goal

pub returns-then-least-first : goal.returns-then-least-first
unfolding traces_fit
returns-then-least-first c = search rules

pub returns-else-least-first : goal.returns-else-least-first
unfolding traces_fit
returns-else-least-first c = search rules
