-- `extreme_courses::kind_refusal` meets its contract. Assumes nothing.
use mathlib.Core.Path.{sym, ◌∙◌}
use Rattle.extreme_courses.specs.Extremes.{kind_refusal}
use Rattle.extreme_courses.proofs.kind_refusal.Goals as goal
use Rattle.extreme_courses.proofs.kind_refusal.Goals.{else-is_allowed-via-then-is_allowed+else-is_allowed-2, else-is_allowed-via-else-is_allowed}

pub returns-then-is_allowed-2 : goal.returns-then-is_allowed-2
unfolding kind_refusal
returns-then-is_allowed-2 c =
    let low = sym c.is_allowed.ensures ∙ c.if-is_allowed.true in
    let high = sym c.is_allowed-then-is_allowed.ensures ∙ c.if-is_allowed-2.true in
    rw (c.if-b.true, low, high)

pub returns-else-is_allowed : goal.returns-else-is_allowed
unfolding kind_refusal
returns-else-is_allowed c =
    elim c.else-is_allowed.branch [
      | else-is_allowed-via-then-is_allowed+else-is_allowed-2 w ↦
          let low = sym c.is_allowed.ensures ∙ w.if-is_allowed.true in
          let high = sym w.is_allowed-then-is_allowed.ensures ∙ w.if-is_allowed-2.false in
          rw (c.if-b.true, low, high)
      | else-is_allowed-via-else-is_allowed w ↦
          let low = sym c.is_allowed.ensures ∙ w.if-is_allowed.false in
          rw (c.if-b.true, low)
    ]

pub returns-then-resets : goal.returns-then-resets
unfolding kind_refusal
returns-then-resets c = rw (c.if-b.false, sym c.resets.ensures ∙ c.if-resets.true)

pub returns-else-resets : goal.returns-else-resets
unfolding kind_refusal
returns-else-resets c = rw (c.if-b.false, sym c.resets.ensures ∙ c.if-resets.false)
