-- `check_input::verdict_line::VerdictLine::of_no` meets its contract. Assumes nothing.
use Prim.Native.Nat.{ℕ}
use mathlib.Core.Path.{◌≡◌, ◌∙◌}
use mathlib.Core.List.{List, ◌++◌, append_assoc}
use Rattle.split.specs.Ascii.{bytes}
use Rattle.outcome.specs.Code.{code_of}
use Rattle.check_input.specs.VerdictLine.{end_of_line, spaced, said_text}
use Rattle.check_input.proofs.verdict_line.VerdictLine.of_no.Goals as goal

regroup : (a b c d e : List ℕ) → (((a ++ b) ++ c) ++ d) ++ e ≡ a ++ (b ++ (c ++ (d ++ e)))
regroup a b c d e = simp append_assoc

pub returns : goal.returns
unfolding said_text
returns c =
    let a = c.args in
    c.append.ensures.0
    ∙ rw
    (c.append_number-3.ensures.0, c.append_number-2.ensures.0, c.append_number.ensures.0)
    (rw (c.of_bytes-text.ensures.0, c.code_of-meaning.ensures)
    (regroup (bytes "no") (spaced a.line) (spaced a.place) (spaced (code_of a.refusal).number) end_of_line))
