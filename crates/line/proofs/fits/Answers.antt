-- `line::fits` meets its contract: by the line's bytes, else by the pass on the state alone. Assumes nothing.
use Prim.Native.Nat.{ℕ}
use native.Mathlib.Omega.{arith}
use mathlib.Core.Bool.{not}
use mathlib.Core.Path.{sym, ap, ◌∙◌}
use borrow.Author.Tests.{lt-ltb}
use borrow.Author.Rules.{rules}
use mir.Syntax.{w32}
use mir.Val.{Fits}
use Rattle.settings.specs.Table.{value_of}
use Rattle.line.proofs.Sized.{Sized}
use Rattle.line.proofs.MustFit.{must_pass}
use Rattle.line.proofs.fits.Goals as goal

pub returns-then-must_fit : goal.returns-then-must_fit
returns-then-must_fit c one two =
    let a = c.args in
    let known = c.well_formed.0 in
    let fit : (entry : ℕ) → Fits w32 (value_of a.s.settings entry) = λ entry. search rules in
    let sized : Sized a.s =
    record {
      values = λ entry. lt-ltb (value_of a.s.settings entry) 4294967296 (fit entry).fits;
      external = omega (arith, known);
      held = omega (arith, known);
      capacity = omega (arith, known);
      registers = record { standard = omega (arith, known); lia = omega (arith, known); errors = omega (arith, known) };
      enables =
          record {
            standard = omega (arith, known);
            service = omega (arith, known);
            lia = omega (arith, known);
            errors = omega (arith, known);
          };
    } in
    let sure = sym c.must_fit.ensures ∙ c.if-must_fit.true in
    c.if-must_fit.true ∙ sym (ap not (must_pass a.line.now a.room a.s one two sized sure))
