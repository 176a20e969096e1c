-- `split::end_of` meets its contract. Assumes nothing.
use Prim.Native.Nat.{◌≤◌}
use mathlib.Core.Path.{◌≡◌}
use lib.ListN.{length, drop, length-drop}
use native.Mathlib.Omega.{arith}
use Rattle.split.specs.Divide.{span}
use Rattle.split.proofs.Span.{span_le, rest_from}
use Rattle.split.proofs.end_of.Goals as goal

pub returns-then-s-a : goal.returns-then-s-a
returns-then-s-a c =
    let k = c.args in
    let rest = drop k.a k.s.now in
    omega (arith, span_le k.separator rest, length-drop k.a k.s.now)

pub returns : goal.returns
returns c =
    let k = c.args in
    let e : c.span_of.result ≡ span k.separator (drop k.a k.s.now) = rw (rest_from k.s.now k.a) at
    c.span_of.ensures.0 in
    let l : c.span_of.result ≤ length (drop k.a k.s.now) = rw (rest_from k.s.now k.a) at c.span_of.ensures.1 in
    let n = length-drop k.a k.s.now in
    record { value = rw e; within = (omega arith, omega arith) }
