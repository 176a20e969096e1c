-- `format::whole_part` meets its contract: after each turn the rest is the value divided by that power of ten. Assumes
-- nothing.
use Prim.Native.Nat.{◌/◌, ◌^◌}
use mathlib.Core.Path.{◌≡◌}
use Rattle.format.proofs.whole_part.Given as goal

abbrev pub invariant-loop : goal.invariant-loop
invariant-loop l = l.rest ≡ l.value / 10 ^ l.counter
