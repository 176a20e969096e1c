-- `number::Digits::whole_part` meets its contract: the digits passed make the value. Assumes nothing.
use Prim.Native.Nat.{min}
use mathlib.Core.Path.{◌≡◌}
use mathlib.Core.List.{◌++◌}
use Rattle.number.specs.Parts.{cap}
use Rattle.number.specs.TextParts.{digits_value}
use Rattle.number.proofs.text.Digits.whole_part.Given as goal

abbrev pub invariant-loop-index : goal.invariant-loop-index
invariant-loop-index l = l.value ≡ min cap (digits_value (l.self.front.now ++ l.self.back.now) 0 l.index)
