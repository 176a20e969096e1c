-- `number::read_mantissa` meets its contract. Assumes nothing.
use lib.Seq.{length-take-le}
use Rattle.number.proofs.Parsing.{mantissa_point, mantissa_plain}
use mathlib.Core.Path.{sym, ◌∙◌}
use Rattle.number.proofs.text.read_mantissa.Goals as goal

pub slice_bounds-read_digits-end : goal.slice_bounds-read_digits-end
slice_bounds-read_digits-end c = sym (length-take-le c.span_of-p.result c.args.m.now c.span_of-p.ensures.1)

pub returns-then-p-m : goal.returns-then-p-m
returns-then-p-m c =
    let a = c.args in
    c.read_digits.ensures ∙ mantissa_point a.negative a.m.now a.power.up a.power.down c.span_of-p.result c.span_of-p.ensures.0

pub returns : goal.returns
returns c =
    let a = c.args in
    c.read_digits-2.ensures
    ∙ mantissa_plain a.negative a.m.now a.power.up a.power.down c.span_of-p.result c.span_of-p.ensures.0 c.if-p-m.false
