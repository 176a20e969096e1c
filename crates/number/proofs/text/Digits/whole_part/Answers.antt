-- `number::Digits::whole_part` meets its contract: the digits passed make the value. Assumes nothing.
use Prim.Native.Nat.{◌-◌}
use mathlib.Core.Path.{◌≡◌, refl, ap, ◌∙◌}
use mathlib.Core.List.{◌++◌}
use native.Mathlib.Omega.{arith}
use native.Mathlib.Nat.{min-le_left}
use Rattle.number.specs.TextParts.{digits_value}
use Rattle.number.proofs.Places.{digit_range}
use Rattle.number.proofs.Scan.{grow}
use Rattle.number.proofs.text.Digits.whole_part.Goals as goal

pub loop-index-init : goal.loop-index-init
unfolding digits_value
loop-index-init c = refl

pub overflow_sub-at : goal.overflow_sub-at
overflow_sub-at c =
    let a = c.args in
    omega (arith, c.at.ensures, digit_range (a.self.front.now ++ a.self.back.now) a.self.digits c.loop-index.index)

pub grown-value-requires : goal.grown-value-requires
grown-value-requires c =
    let a = c.args in (
      rw c.loop-index.invariant (min-le_left _ _),
      omega (arith, c.at.ensures, digit_range (a.self.front.now ++ a.self.back.now) a.self.digits c.loop-index.index),
    )

pub loop-index-preserved : goal.loop-index-preserved
loop-index-preserved c =
    let a = c.args in
    c.grown-value.ensures
    ∙ grow (a.self.front.now ++ a.self.back.now) c.loop-index.index _ _ c.loop-index.invariant (ap (λ b. b - 48) c.at.ensures)

pub returns : goal.returns
returns c =
    let e : c.loop-index.index ≡ c.args.kept = omega arith in
    c.loop-index.invariant ∙ rw e
