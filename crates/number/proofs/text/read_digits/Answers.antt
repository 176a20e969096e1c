-- `number::read_digits` meets its contract. Assumes nothing.
use mathlib.Core.Path.{◌≡◌, sym}
use mathlib.Core.Bool.{true, false}
use mathlib.Core.List.{◌++◌}
use Rattle.number.specs.TextParts.{digits_of, are_digits}
use Rattle.number.proofs.text.read_digits.Goals as goal

pub returns-in_err-digits : goal.returns-in_err-digits
unfolding digits_of
returns-in_err-digits c =
    let a = c.args in
    let e : are_digits (a.front.now ++ a.back.now) ≡ false = sym (rw c.in_err-digits.was at c.of.ensures.0) in
    rw (c.from_residual.ensures, e)

pub returns : goal.returns
unfolding digits_of
returns c =
    let a = c.args in
    let e : are_digits (a.front.now ++ a.back.now) ≡ true = sym (rw c.in_ok-digits.was at c.of.ensures.0) in
    let same = rw c.in_ok-digits.was at c.of.ensures.1 in
    rw (c.scaled.ensures, same.0, same.1, e)
