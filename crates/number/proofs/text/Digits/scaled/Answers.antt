-- `number::Digits::scaled` meets its contract. Assumes nothing.
use Prim.Native.Nat.{◌+◌, ◌-◌}
use mathlib.Core.Path.{sym}
use native.Mathlib.Omega.{arith}
use lib.ListN.{length}
use Rattle.number.proofs.Places.{scaled_within, scaled_beyond}
use Rattle.number.proofs.text.Digits.scaled.Goals as goal

pub returns-then-point-power : goal.returns-then-point-power
returns-then-point-power c =
    let a = c.args in
    rw c.zero_from.ensures
    (sym (scaled_beyond a.negative a.self.front.now a.self.back.now a.power.up a.power.down a.self.digits c.if-point-power.true))

pub returns : goal.returns
returns c =
    let a = c.args in
    rw (c.zero_from-2.ensures, c.whole_part.ensures, c.at.ensures)
    (sym
    (scaled_within a.negative a.self.front.now a.self.back.now a.power.up a.power.down a.self.digits (length a.self.front.now + a.power.up - a.power.down)
    (omega (arith, c.if-point-power.false))))
