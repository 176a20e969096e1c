-- `number::read_unsigned` meets its contract. Assumes nothing.
use Prim.Native.Nat.{◌+◌}
use native.Mathlib.Omega.{arith}
use mathlib.Core.Path.{◌≡◌, sym, ◌∙◌}
use lib.ListN.{drop}
use lib.Seq.{length-take-le}
use Rattle.std.specs.Prelude.{Some, None}
use Rattle.split.proofs.Span.{rest_from}
use Rattle.number.specs.TextParts.{exponent_of, with_exponent}
use Rattle.number.proofs.Parsing.{unsigned_with, unsigned-plain}
use Rattle.number.proofs.text.read_unsigned.Goals as goal

pub returns-in_err-power : goal.returns-in_err-power
unfolding with_exponent
returns-in_err-power c =
    let a = c.args in
    let e = c.span_of-e.result in
    let x : exponent_of (drop (e + 1) a.u.now) ≡ None =
    rw (← rest_from a.u.now (e + 1), ← c.read_exponent.ensures.0) c.in_err-power.was in
    c.from_residual.ensures
    ∙ (rw x at (unsigned_with a.negative a.u.now a.decimals e c.span_of-e.ensures.0 c.if-e-u.true))

pub slice_bounds-read_mantissa-end : goal.slice_bounds-read_mantissa-end
slice_bounds-read_mantissa-end c = sym (length-take-le c.span_of-e.result c.args.u.now c.span_of-e.ensures.1)

pub overflow_add-moved : goal.overflow_add-moved
overflow_add-moved c = omega (arith, c.requires, (rw c.in_ok-power.was at c.read_exponent.ensures.1).0)

pub returns-then-e-u : goal.returns-then-e-u
unfolding with_exponent
returns-then-e-u c =
    let a = c.args in
    let e = c.span_of-e.result in
    let x : exponent_of (drop (e + 1) a.u.now) ≡ Some c.in_ok-power.power =
    rw (← rest_from a.u.now (e + 1), ← c.read_exponent.ensures.0) c.in_ok-power.was in
    c.read_mantissa.ensures
    ∙ (rw x at (unsigned_with a.negative a.u.now a.decimals e c.span_of-e.ensures.0 c.if-e-u.true))

pub returns : goal.returns
returns c =
    let a = c.args in
    c.read_mantissa-2.ensures
    ∙ unsigned-plain a.negative a.u.now a.decimals c.span_of-e.result c.span_of-e.ensures.0 c.if-e-u.false
