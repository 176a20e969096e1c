-- `number::Amount::round_to` meets its contract. Assumes nothing.
use Prim.Native.Nat.{◌+◌, ◌*◌, ◌%◌}
use lib.Dec.{leb}
use native.Mathlib.Nat.{mul-zero, mod-lt, div-le_self}
use Rattle.number.specs.Parts.{rounded_to}
use Rattle.number.proofs.Flag.{flag_value, flag_le}
use Rattle.number.proofs.Rounding.{rounded_le}
use native.Mathlib.Omega.{arith}
use Rattle.number.proofs.Amount.round_to.Goals as goal

pub returns-then-step-eq0 : goal.returns-then-step-eq0
unfolding rounded_to
returns-then-step-eq0 c = (rw (c.if-step-eq0.true, mul-zero), omega arith)

pub overflow_mul-up : goal.overflow_mul-up
overflow_mul-up c = omega (arith, mod-lt c.args.self.quantity.whole {m = c.args.step} (omega arith))

pub overflow_add-up : goal.overflow_add-up
overflow_add-up c = omega (arith, flag_le c.args.self.quantity.half)

pub overflow_add-result : goal.overflow_add-result
overflow_add-result c = omega (arith, div-le_self c.args.self.quantity.whole c.from-s.result, flag_le (leb c.from-s.result (2 * (c.args.self.quantity.whole % c.from-s.result) + c.from.result)))

pub overflow_mul-result : goal.overflow_mul-result
overflow_mul-result c =
    let a = c.args in
    let up = rw flag_value at c.from-2.ensures in
    rw up (omega (arith, rounded_le a.self.quantity.whole c.from-s.result (leb c.from-s.result (2 * (a.self.quantity.whole % c.from-s.result) + c.from.result))))

pub returns : goal.returns
unfolding rounded_to
returns c =
    let a = c.args in
    let up = rw (c.from-s.ensures, c.from.ensures, flag_value a.self.quantity.half, flag_value) at c.from-2.ensures in
    (rw (c.from-s.ensures, up), rw (c.from-s.ensures, up) (rounded_le a.self.quantity.whole a.step _))
