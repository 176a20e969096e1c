-- `line_text::clean` meets its contract: what is kept and what is still to come make the whole. Assumes nothing.
use mathlib.Core.Path.{refl, sym, ◌∙◌}
use native.Mathlib.Omega.{arith}
use lib.ListN.{length-set}
use Rattle.line_text.proofs.Kept.{cleaned-drop, cleaned_keep, cleaned-end, kept_more, kept_full, kept_all}
use Rattle.line_text.proofs.clean.Goals.{then-not-is_dropped+then-len-lt-LINE, else-not-is_dropped, else-not-is_dropped-via-then-not-is_dropped+else-len-lt-LINE, else-not-is_dropped-via-else-not-is_dropped}
use Rattle.line_text.proofs.clean.Goals as goal

pub loop-b-init : goal.loop-b-init
loop-b-init c = (omega arith, refl, refl)

pub loop-b-preserved : goal.loop-b-preserved
loop-b-preserved c =
    let v = c.loop-b in
    let line = c.args.line.now in elim c.if-not-is_dropped.branch [
      | then-not-is_dropped+then-len-lt-LINE w ↦
          rw (w.bytes-is, w.len-is, w.capital_of.ensures) (
            omega arith,
            length-set v.bytes v.len _ ∙ v.invariant.1,
            kept_more v.bytes v.len _ _ v.invariant.1 w.if-len-lt-LINE.true
                ∙ rw (cleaned_keep line v.b-index c.loop-b-test.true (sym c.is_dropped.ensures ∙ w.if-not-is_dropped.true)) at
                v.invariant.2,
          )
      | else-not-is_dropped w ↦
          rw (w.bytes-is, w.len-is) (elim w.else-not-is_dropped.branch [
            | else-not-is_dropped-via-then-not-is_dropped+else-len-lt-LINE u ↦ (
              v.invariant.0,
              v.invariant.1,
              kept_full v.bytes v.len _ _ v.invariant.1 v.invariant.0 u.if-len-lt-LINE.false
                  ∙ rw (cleaned_keep line v.b-index c.loop-b-test.true (sym c.is_dropped.ensures ∙ u.if-not-is_dropped.true)) at
                  v.invariant.2,
            )
            | else-not-is_dropped-via-else-not-is_dropped u ↦ (
              v.invariant.0,
              v.invariant.1,
              rw (cleaned-drop line v.b-index c.loop-b-test.true (sym c.is_dropped.ensures ∙ u.if-not-is_dropped.false)) at
                  v.invariant.2,
            )
          ])
    ]

pub returns : goal.returns
returns c =
    let v = c.loop-b in
    let line = c.args.line.now in (
      sym (kept_all v.bytes v.len v.invariant.1 v.invariant.0)
          ∙ (rw (cleaned-end line v.b-index c.loop-b-test.false) at v.invariant.2),
      v.invariant.0,
    )
