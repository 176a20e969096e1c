-- `format::whole_part` meets its contract: after each turn the rest is the value divided by that power of ten. Assumes
-- nothing.
use mathlib.Core.Path.{◌≡◌, sym}
use native.Mathlib.Omega.{arith}
use native.Mathlib.Nat.{div-one}
use Rattle.format.proofs.Digits.{tenth}
use Rattle.format.proofs.whole_part.Goals as goal

pub loop-init : goal.loop-init
loop-init c = sym (div-one c.args.value)

pub loop-preserved : goal.loop-preserved
loop-preserved c = tenth c.args.value c.loop.rest c.loop.counter c.loop.invariant

pub returns : goal.returns
returns c =
    let e : c.loop.counter ≡ c.args.decimals = omega arith in
    rw e at c.loop.invariant
