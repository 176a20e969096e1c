-- `module::Module::guard` meets its contract. Assumes nothing.
use Rattle.std.proofs.Common.{rules}
use Rattle.module.specs.Module.{guard_of}
use Rattle.module.proofs.Module.guard.Goals as goal

pub returns-then-not-is_valid : goal.returns-then-not-is_valid
unfolding guard_of
returns-then-not-is_valid c = search rules

pub returns-then-second-capacity : goal.returns-then-second-capacity
unfolding guard_of
returns-then-second-capacity c = search rules

pub returns-else-first-capacity : goal.returns-else-first-capacity
unfolding guard_of
returns-else-first-capacity c = search rules
