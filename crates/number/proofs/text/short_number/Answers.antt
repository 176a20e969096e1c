-- `number::short_number` meets its contract. Assumes nothing.
use native.Mathlib.Omega.{arith}
use mathlib.Core.Path.{sym, ◌∙◌}
use Rattle.number.proofs.Parsing.{short-none, short_many, short_wrong, short-one, short-two}
use Rattle.number.proofs.Scan.{digit_at_place}
use Rattle.number.proofs.text.short_number.Goals as goal

pub returns-then-not-all_digits : goal.returns-then-not-all_digits
returns-then-not-all_digits c = (short_wrong c.args.t.now (sym c.all_digits.ensures ∙ c.if-not-all_digits.true), tt)

pub overflow_sub-a : goal.overflow_sub-a
overflow_sub-a c =
    omega (arith, digit_at_place c.args.t.now 0 (sym c.all_digits.ensures ∙ c.if-not-all_digits.false) c.in-len1.len_at_least)

pub overflow_sub-a-in-len2 : goal.overflow_sub-a-in-len2
overflow_sub-a-in-len2 c =
    omega (arith, digit_at_place c.args.t.now 0 (sym c.all_digits.ensures ∙ c.if-not-all_digits.false) (omega arith))

pub overflow_mul-a : goal.overflow_mul-a
overflow_mul-a c =
    omega (arith, digit_at_place c.args.t.now 0 (sym c.all_digits.ensures ∙ c.if-not-all_digits.false) (omega arith))

pub overflow_sub-b : goal.overflow_sub-b
overflow_sub-b c =
    omega (arith, digit_at_place c.args.t.now 1 (sym c.all_digits.ensures ∙ c.if-not-all_digits.false) (omega arith))

pub overflow_add-a : goal.overflow_add-a
overflow_add-a c =
    let all = sym c.all_digits.ensures ∙ c.if-not-all_digits.false in
    omega (arith, digit_at_place c.args.t.now 0 all (omega arith), digit_at_place c.args.t.now 1 all (omega arith))

pub returns-in-len1 : goal.returns-in-len1
returns-in-len1 c =
    let all = sym c.all_digits.ensures ∙ c.if-not-all_digits.false in (
      rw c.from.ensures (short-one c.args.t.now c.in-len1.len_at_least (omega arith) all),
      omega (arith, c.from.ensures, digit_at_place c.args.t.now 0 all (omega arith)),
    )

pub returns-in-len2 : goal.returns-in-len2
returns-in-len2 c =
    let all = sym c.all_digits.ensures ∙ c.if-not-all_digits.false in (
      rw c.from-in-len2.ensures (short-two c.args.t.now c.in-len2.len_at_least (omega arith) all),
      omega (arith, c.from-in-len2.ensures, digit_at_place c.args.t.now 0 all (omega arith), digit_at_place c.args.t.now 1 all (omega arith)),
    )

pub returns-in_default : goal.returns-in_default
returns-in_default c = (short-none c.args.t.now (omega arith), tt)

pub returns-in_default-2 : goal.returns-in_default-2
returns-in_default-2 c = (short_many c.args.t.now (omega arith), tt)
