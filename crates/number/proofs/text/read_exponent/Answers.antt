-- `number::read_exponent` meets its contract. Assumes nothing.
use mathlib.Core.Path.{◌≡◌, refl, sym, ◌∙◌}
use mathlib.Core.Bool.{true, false}
use native.Mathlib.Omega.{arith}
use Rattle.std.specs.Prelude.{Some, None}
use Rattle.number.specs.Number.{minus, begins, unsigned}
use Rattle.number.specs.TextParts.{short_of}
use Rattle.number.proofs.Parsing.{exponent_is}
use Rattle.number.proofs.text.read_exponent.Goals as goal

pub returns-in_err-n : goal.returns-in_err-n
returns-in_err-n c =
    let s : short_of (unsigned c.args.x.now) ≡ None =
    rw (← c.split_sign-negative.ensures.1, ← c.short_number.ensures.0) c.in_err-n.was in
    rw (c.from_residual.ensures, exponent_is, s) (refl, tt)

pub returns-then-negative : goal.returns-then-negative
returns-then-negative c =
    let s : short_of (unsigned c.args.x.now) ≡ Some c.in_ok-n.n =
    rw (← c.split_sign-negative.ensures.1, ← c.short_number.ensures.0) c.in_ok-n.was in
    let m : begins minus c.args.x.now ≡ true = sym c.split_sign-negative.ensures.0 ∙ c.if-negative.true in
    (sym (exponent_is c.args.x.now ∙ rw (s, m)), (omega arith, rw c.in_ok-n.was at c.short_number.ensures.1))

pub returns : goal.returns
returns c =
    let s : short_of (unsigned c.args.x.now) ≡ Some c.in_ok-n.n =
    rw (← c.split_sign-negative.ensures.1, ← c.short_number.ensures.0) c.in_ok-n.was in
    let m : begins minus c.args.x.now ≡ false = sym c.split_sign-negative.ensures.0 ∙ c.if-negative.false in
    (sym (exponent_is c.args.x.now ∙ rw (s, m)), (rw c.in_ok-n.was at c.short_number.ensures.1, omega arith))
