-- `effect::storage_by` meets its contract. Assumes nothing.
use Rattle.std.proofs.Common.{rules}
use Rattle.effect.specs.Effect.{storage_by}
use Rattle.effect.proofs.storage_by.Goals as goal

pub returns-in-Reset : goal.returns-in-Reset
unfolding storage_by
returns-in-Reset c = search rules

pub returns-in-Clear : goal.returns-in-Clear
unfolding storage_by
returns-in-Clear c = search rules

pub returns-in-Start : goal.returns-in-Start
unfolding storage_by
returns-in-Start c = search rules

pub returns-in-Pause : goal.returns-in-Pause
unfolding storage_by
returns-in-Pause c = search rules

pub returns-in-Trigger : goal.returns-in-Trigger
unfolding storage_by
returns-in-Trigger c = search rules
