-- `check_input::bytes::capacity_after` meets its contract. Assumes nothing.
use Prim.Native.Nat.{◌<◌, ◌≤◌}
use native.Mathlib.Omega.{arith}
use borrow.Author.Tests.{lt-ltb, le-ltb, le-leb, lt-leb}
use Rattle.check_input.specs.Bytes.{capacity_after}
use Rattle.check_input.proofs.bytes.capacity_after.Goals as goal

pub returns-then-capacity-gt-CAPACITY_MOST : goal.returns-then-capacity-gt-CAPACITY_MOST
unfolding capacity_after
returns-then-capacity-gt-CAPACITY_MOST c = rw (lt-ltb 16383 c.args.capacity c.if-capacity-gt-CAPACITY_MOST.true)

pub returns-in-48-to-57 : goal.returns-in-48-to-57
unfolding capacity_after
returns-in-48-to-57 c =
    let a = c.args in
    let b = a.b in
    let low : 48 ≤ b = omega arith in
    let high : b ≤ 57 = omega arith in
    rw (le-ltb 16383 a.capacity c.if-capacity-gt-CAPACITY_MOST.false, le-leb 48 b low, le-leb b 57 high)

pub returns-in_default : goal.returns-in_default
unfolding capacity_after
returns-in_default c =
    let a = c.args in
    let b = a.b in
    let low : b < 48 = omega arith in
    rw (le-ltb 16383 a.capacity c.if-capacity-gt-CAPACITY_MOST.false, lt-leb 48 b low)

pub returns-in_default-2 : goal.returns-in_default-2
unfolding capacity_after
returns-in_default-2 c =
    let a = c.args in
    let b = a.b in
    let low : 48 ≤ b = omega arith in
    let high : 57 < b = omega arith in
    rw (le-ltb 16383 a.capacity c.if-capacity-gt-CAPACITY_MOST.false, le-leb 48 b low, lt-leb b 57 high)
