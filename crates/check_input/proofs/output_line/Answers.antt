-- `check_input::output_line` meets its contract: the line of what is said, and what is kept is enough. Assumes nothing.
use mathlib.Core.Path.{◌≡◌, ap, ◌∙◌}
use mathlib.Core.List.{List}
use Prim.Native.Nat.{ℕ}
use Rattle.check_input.specs.Bytes.{Memory}
use Rattle.check_input.specs.VerdictLine.{verdict_text}
use Rattle.check_input.specs.Whole.{verdict_from, Outputs}
use Rattle.check_input.proofs.Whole.{whole}
use Rattle.check_input.proofs.output_line.Goals as goal

outputs : (h : Memory) (text : List ℕ) → text ≡ verdict_text (verdict_from h) → Outputs h text
outputs h text e =
    record {
      kept = e;
      whole = λ input lent long kept.
          e ∙ ap (λ k. verdict_text (verdict_from k)) kept ∙ ap verdict_text (whole.verdict_numbers input lent long);
    }

pub returns : goal.returns
returns c = outputs _ _ (c.of.ensures ∙ ap verdict_text c.verdict_from.ensures)
