-- `number::Digits::of` meets its contract. Assumes nothing.
use mathlib.Core.Path.{refl, sym, ◌∙◌}
use Rattle.number.proofs.Parsing.{digits_few, digits_many, digits_wrong, digits_right}
use Rattle.number.proofs.Scan.{digits-both, digits-not-first, digits-not-second}
use Rattle.number.proofs.text.Digits.of.Goals.{then-n-lt1-via-then-n-lt1, then-n-lt1-via-else-n-lt1+then-n-gt-DIGIT_LIMIT, then-n-lt1-via-else-n-lt1+else-n-gt-DIGIT_LIMIT+then-not-all_digits, then-n-lt1-via-else-n-lt1+else-n-gt-DIGIT_LIMIT+else-not-all_digits+then-not-all_digits-2}
use Rattle.number.proofs.text.Digits.of.Goals as goal

pub returns-then-n-lt1 : goal.returns-then-n-lt1
returns-then-n-lt1 c =
    let a = c.args in elim c.then-n-lt1.branch [
      | then-n-lt1-via-then-n-lt1 w ↦ (digits_few a.front.now a.back.now w.if-n-lt1.true, tt)
      | then-n-lt1-via-else-n-lt1+then-n-gt-DIGIT_LIMIT w ↦ (digits_many a.front.now a.back.now w.if-n-gt-DIGIT_LIMIT.true, tt)
      | then-n-lt1-via-else-n-lt1+else-n-gt-DIGIT_LIMIT+then-not-all_digits w ↦ (
        digits_wrong a.front.now a.back.now
            (digits-not-first a.front.now a.back.now (sym w.all_digits.ensures ∙ w.if-not-all_digits.true)),
        tt,
      )
      | then-n-lt1-via-else-n-lt1+else-n-gt-DIGIT_LIMIT+else-not-all_digits+then-not-all_digits-2 w ↦ (
        digits_wrong a.front.now a.back.now
            (digits-not-second a.front.now a.back.now
            (sym w.all_digits-else-not-all_digits.ensures ∙ w.if-not-all_digits-2.true)),
        tt,
      )
    ]

pub invariant_of-result : goal.invariant_of-result
invariant_of-result c =
    let a = c.args in
    record {
      digits =
          digits-both a.front.now a.back.now (sym c.all_digits.ensures ∙ c.if-not-all_digits.false)
          (sym c.all_digits-else-not-all_digits.ensures ∙ c.if-not-all_digits-2.false);
      few = c.if-n-gt-DIGIT_LIMIT.false;
    }

pub returns : goal.returns
returns c =
    let a = c.args in (
      digits_right a.front.now a.back.now c.if-n-lt1.false c.if-n-gt-DIGIT_LIMIT.false
          (digits-both a.front.now a.back.now (sym c.all_digits.ensures ∙ c.if-not-all_digits.false)
          (sym c.all_digits-else-not-all_digits.ensures ∙ c.if-not-all_digits-2.false)),
      (refl, refl),
    )
