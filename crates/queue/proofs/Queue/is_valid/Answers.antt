-- `queue::Queue::is_valid` meets its contract, case by case. Assumes nothing.
use Prim.Native.Nat.{◌-◌}
use mathlib.Core.Path.{◌≡◌, sym}
use native.Mathlib.Omega.{arith}
use Rattle.queue.proofs.Valid.{keeps_long, keeps_discarding, keeps_waiting}
use Rattle.queue.proofs.Queue.is_valid.Goals as goal

pub returns-then-self : goal.returns-then-self
returns-then-self c = sym (keeps_discarding c.args.self.now c.args.port c.if-self.true)

pub returns-in_default : goal.returns-in_default
returns-in_default c = sym (keeps_long c.args.self.now c.args.port (omega (arith, c.in_default.ensures.lookup)))

pub returns : goal.returns
returns c =
    let found = c.in-Some.ensures.lookup.0 in
    let valid = keeps_waiting c.args.self.now c.args.port (omega (arith, found)) c.if-self.false in
    let whole : c.args.self.now.len - 0 ≡ c.args.self.now.len = omega arith in
    rw (c.ends_none.ensures, found.2, whole) (sym valid)
