-- `lockin::byte_run::first_line` meets its contract: by the two answers. Assumes nothing.
use Prim.Native.Nat.{ℕ}
use mathlib.Core.Bool.{true, false, cond, ◌&&◌}
use mathlib.Core.Path.{◌≡◌, refl}
use Rattle.std.specs.Prelude.{Ok, Err, is_ok, is_err}
use Rattle.outcome.specs.Answer.{Answer}
use Rattle.lockin.specs.Run.{first_line}
use Rattle.lockin.proofs.byte_run.first_line.Goals as goal

by_answers : (a : Answer) (line : ℕ) (b : Answer) (here : ℕ) → cond (is_ok a && is_err b) here line
    ≡ first_line a line b here
unfolding first_line
by_answers (Ok _) line (Ok _) here = refl
by_answers (Ok _) line (Err _) here = refl
by_answers (Err _) line b here = refl

pub returns-then-is_ok-is_err : goal.returns-then-is_ok-is_err
returns-then-is_ok-is_err c =
    let args = c.args in
    let t : is_ok args.answer && is_err args.later ≡ true =
    rw (← c.is_ok.ensures.value, ← c.is_err.ensures.value) c.if-is_ok-is_err.true in
    rw t at (by_answers args.answer args.line args.later args.here)

pub returns : goal.returns
returns c =
    let args = c.args in
    let t : is_ok args.answer && is_err args.later ≡ false =
    rw (← c.is_ok.ensures.value, ← c.is_err.ensures.value) c.if-is_ok-is_err.false in
    rw t at (by_answers args.answer args.line args.later args.here)
