-- `point::float_bits` meets its contract: each return is one of the three cases of what TRCB sends. Assumes nothing.
use Prim.Native.Nat.{ℕ, ◌+◌, ◌≤◌, ◌<◌}
use native.Mathlib.Omega.{arith}
use mathlib.Core.Bool.{Bool, true, false}
use mathlib.Core.Path.{◌≡◌, sym, ap, ◌∙◌}
use Rattle.point.specs.Point.{is_negative, is_legal, single_of, float_of}
use Rattle.point.proofs.Digits.{single_lt, with-sign}
use Rattle.point.proofs.Cases.{magnitude_le, exponent_le, no-point, no_magnitude, some_magnitude}
use Rattle.point.proofs.float_bits.Goals.{After-exponent}
use Rattle.point.proofs.float_bits.Goals as goal

-- where m is not 0
module _ (c : After-exponent) where
  abbrev word : ℕ
  word = c.args.word

  abbrev a : ℕ
  a = c.magnitude-a.result

  abbrev e : ℕ
  e = c.exponent.result

  fine : is_legal word ≡ true
  fine = sym c.legal.ensures ∙ c.if-not-legal.false

  bounds : ((0 < a) × (a ≤ 32768)) × (e ≤ 236)
  bounds = omega (arith, magnitude_le word, exponent_le word fine)

  sent : (s : Bool) → s ≡ is_negative word → float_of word ≡ single_of s a e
  sent s n = some_magnitude word fine c.magnitude-a.ensures c.if-a-eq0.false c.exponent.ensures n

pub returns-then-a-eq0 : goal.returns-then-a-eq0
returns-then-a-eq0 c =
    sym (no_magnitude c.args.word (sym c.legal.ensures ∙ c.if-not-legal.false) (sym c.magnitude-a.ensures ∙ c.if-a-eq0.true))

pub single-bits-requires : goal.single-bits-requires
single-bits-requires c =
    let each = bounds (goal.at.single-bits-requires c).After-exponent in
    record { magnitude_fits = each.0; exponent_fits = each.1 }

pub overflow_add-result : goal.overflow_add-result
overflow_add-result c =
    let at = (goal.at.overflow_add-result c).After-exponent in
    let b = bounds at in
    omega (arith, single_lt (a at) (e at) b.0.0 b.0.1 b.1)

pub returns-then-negative : goal.returns-then-negative
returns-then-negative c =
    let at = (goal.at.returns-then-negative c).After-exponent in
    sym
    (sent at true (sym c.if-negative.true ∙ c.negative.ensures)
    ∙ with-sign (a at) (e at)
    ∙ ap (λ (n : ℕ). 2147483648 + n) (sym c.single-bits.ensures))

pub returns-else-negative : goal.returns-else-negative
returns-else-negative c =
    let at = (goal.at.returns-else-negative c).After-exponent in
    c.single-bits.ensures ∙ sym (sent at false (sym c.if-negative.false ∙ c.negative.ensures))

pub returns-then-not-legal : goal.returns-then-not-legal
returns-then-not-legal c = sym (no-point c.args.word (sym c.legal.ensures ∙ c.if-not-legal.true))
