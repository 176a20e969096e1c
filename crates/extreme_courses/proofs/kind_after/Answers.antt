-- `extreme_courses::kind_after` meets its contract. Assumes nothing.
use mathlib.Core.Bool.{◌||◌}
use mathlib.Core.Path.{◌≡◌}
use Rattle.extreme_courses.specs.Extremes.{resets, kind_after}
use Rattle.extreme_courses.proofs.kind_after.Goals as goal
use Rattle.extreme_courses.proofs.kind_after.Goals.{then-b, else-b}

pub returns : goal.returns
unfolding kind_after
returns c =
    let begun : c.if-b.result ≡ (c.args.b.begun || resets c.args.kind) =
    elim c.if-b.branch [
      | then-b w ↦ rw (w.result-is, w.if-b.true)
      | else-b w ↦ rw (w.result-is, w.resets.ensures, w.if-b.false)
    ] in
    rw (begun, c.acquisition_after-2.ensures, c.acquisition_after.ensures, c.settings_after-settings.ensures)
