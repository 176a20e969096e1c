-- `settings::range_effect` meets its contract. Assumes nothing.
use Prim.Native.Nat.{◌+◌, ◌<◌}
use native.Mathlib.Omega.{arith}
use mathlib.Core.Path.{sym, ◌∙◌}
use borrow.Author.Rules.{rules}
use Rattle.settings.specs.Frequency.{change_bits, shortened_bit, range_effect_of}
use Rattle.settings.specs.declared.FrequencyRange.{FrequencyRange}
use Rattle.settings.specs.declared.FrequencyRange.TheVariants.{Upper, Lower}
use Rattle.settings.proofs.range_effect.Goals as goal

small : (old new : FrequencyRange) → change_bits old new + shortened_bit < 256
small Upper Upper = omega arith
small Upper Lower = omega arith
small Lower Upper = omega arith
small Lower Lower = omega arith

pub returns-then-time_constant_stands : goal.returns-then-time_constant_stands
unfolding range_effect_of
returns-then-time_constant_stands c =
    let stands = c.time_constant_stands in
    simp (c.change_bits-bits.ensures, sym stands.ensures ∙ c.if-time_constant_stands.true)

pub overflow_add-result : goal.overflow_add-result
overflow_add-result c =
    let change = c.change_bits-bits in
    let a = c.args in
    let room = small a.old a.new in
    search (rules, change.ensures, room)

pub returns : goal.returns
unfolding range_effect_of
returns c =
    let stands = c.time_constant_stands in
    simp (c.change_bits-bits.ensures, sym stands.ensures ∙ c.if-time_constant_stands.false)
