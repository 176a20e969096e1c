-- `settings::in_ranges` meets its contract: the test so far is that of the entries passed. Assumes nothing.
use mathlib.Core.Path.{◌≡◌}
use lib.ListN.{get_or}
use Rattle.settings.specs.Valid.{every}
use Rattle.settings.proofs.Parts.{in_range}
use Rattle.settings.proofs.in_ranges.Given as goal

abbrev pub invariant-loop-entry : goal.invariant-loop-entry
invariant-loop-entry l = l.inside ≡ every (λ e. in_range e (get_or l.fn.s.values e 0)) l.entry
