-- `number::take` meets its contract. Assumes nothing.
use Prim.Native.Nat.{ℕ, ◌<◌}
use mathlib.Core.Path.{◌≡◌, sym, ◌∙◌}
use mathlib.Core.Bool.{cond, not, ◌||◌, and-false}
use native.Mathlib.Omega.{arith}
use lib.Dec.{ltb}
use borrow.Author.Tests.{lt-ltb, le-ltb}
use Rattle.std.specs.Prelude.{Some, None, Result, Ok, Err}
use Rattle.std.specs.Result.{OkIff, result_ok}
use Rattle.number.specs.Parts.{taken_of, value_in, largest}
use Rattle.number.proofs.take.Goals.{else-fits-via-then-fits+else-q, else-fits-via-else-fits, then-not-range, else-not-range}
use Rattle.number.proofs.take.Goals as goal

-- a number as one of 32 bits
in_word : {E : Type 0} (r : Result ℕ E) (n : ℕ) → OkIff r (n < 4294967296) n → result_ok r ≡ cond (ltb largest n) None (Some n)
in_word (Ok x) n h = rw (le-ltb largest n (omega arith), h.1)
in_word (Err e) n h = rw (lt-ltb largest n (omega arith))

pub returns-then-q : goal.returns-then-q
unfolding taken_of value_in
returns-then-q c =
    let a = c.args in
    let w : (not a.range.whole || a.q.exact) ≡ c.if-not-range.value = elim c.if-not-range.branch [
      | then-not-range w ↦ rw w.if-not-range.true (sym (w.value-is ∙ w.if-not-range.true))
      | else-not-range w ↦ rw (w.if-not-range.false, w.value-is)
    ] in
    c.ok.ensures.value
    ∙ in_word c.try_from.result c.placed.result c.try_from.ensures
    ∙ rw (c.placed.ensures, lt-ltb _ _ c.if-q-ge-CAP.false, ← c.fits.ensures, c.if-fits.true, w, c.if-q.true)

pub returns-then-q-ge-CAP : goal.returns-then-q-ge-CAP
unfolding taken_of
returns-then-q-ge-CAP c = rw (le-ltb _ _ c.if-q-ge-CAP.true)

pub returns : goal.returns
unfolding taken_of
returns c = elim c.else-fits.branch [
  | else-fits-via-then-fits+else-q w ↦
      let a = c.args in
      let whole : (not a.range.whole || a.q.exact) ≡ w.if-not-range.value = elim w.if-not-range.branch [
        | then-not-range v ↦ rw v.if-not-range.true (sym (v.value-is ∙ v.if-not-range.true))
        | else-not-range v ↦ rw (v.if-not-range.false, v.value-is)
      ] in
      rw (whole, w.if-q.false, and-false, and-false)
  | else-fits-via-else-fits w ↦ rw (← c.fits.ensures, w.if-fits.false, and-false)
]
