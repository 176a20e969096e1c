-- `module::Module::is_valid` meets its contract. Assumes nothing.
use Rattle.std.proofs.Common.{rules}
use Rattle.module.specs.Module.{valid_module}
use Rattle.module.proofs.Module.is_valid.Goals as goal

pub returns-then-is_valid : goal.returns-then-is_valid
unfolding valid_module
returns-then-is_valid c = search rules

pub returns-else-is_valid : goal.returns-else-is_valid
unfolding valid_module
returns-else-is_valid c = search rules
