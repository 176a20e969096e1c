-- `reply_buffer::put_points` meets its contract: what is written so far, then the points that are left, is the whole.
-- Assumes nothing.
use native.Mathlib.Nat.{add-zero, sub-zero}
use Prim.Native.Nat.{◌+◌, ◌-◌, ◌*◌}
use mathlib.Core.Path.{◌≡◌, refl, sym, ap, ◌∙◌}
use native.Mathlib.Omega.{arith}
use lib.ListN.{take-append-drop}
use Rattle.reply_buffer.specs.Buffer.{overwrite, word_at, formed, point_bytes}
use Rattle.reply_buffer.proofs.Points.{points_more}
use Rattle.reply_buffer.proofs.put_points.Goals as goal

pub loop-i-init : goal.loop-i-init
loop-i-init c = (rw (add-zero, sub-zero) refl, refl)

pub loop-i-preserved : goal.loop-i-preserved
loop-i-preserved c =
    let v = c.loop-i in
    let a = c.args in
    let x = c.formed_word-sent in
    let e : x.result ≡ formed a.form (word_at a.trace.now (a.first + v.i)) =
    x.ensures ∙ ap (formed a.form) c.word_at-word.ensures in (
      rw c.put_word.ensures
          (points_more a.form a.trace.now v.out a.first v.i a.count x.result e (omega arith)
          (omega arith) ∙ v.invariant.0),
      c.put_word.auto.out ∙ v.invariant.1,
    )

pub shape_of-out : goal.shape_of-out
shape_of-out c = c.loop-i.invariant.1

pub returns : goal.returns
unfolding overwrite point_bytes
returns c =
    let v = c.loop-i in
    let a = c.args in
    let e : a.count - v.i ≡ 0 = omega arith in
    sym (take-append-drop (4 * v.i) v.out) ∙ rw e at v.invariant.0
