-- `outcome::drops` meets its contract, refusal by refusal. Assumes nothing.
use mathlib.Core.Bool.{Bool}
use mathlib.Core.Path.{◌≡◌, refl, ◌∙◌}
use Rattle.std.specs.Prelude.{Ok, Err}
use Rattle.std.specs.Result.{result_eq}
use Rattle.outcome.specs.contracts.RefusalPartialEq.TheImpl as equals
use Rattle.outcome.specs.declared.Refusal.TheVariants.{Malformed, OutOfRange, NotAllowed, NoRoom, LongLine}
use Rattle.outcome.specs.declared.Refusal.TheVariants.{BadEvent, NoReset, LongScriptLine, BadTraces}
use Rattle.outcome.specs.declared.Refusal.TheVariants.{BadStart, BadState}
use Rattle.outcome.specs.Code.{Outcome}
use Rattle.outcome.specs.Answer.{is_no_room, drops}
use Rattle.outcome.proofs.drops.Goals as goal

by_refusal : (f : Unit → Unit → Bool) → (o : Outcome) → result_eq f equals.eq-value.it o (Err NoRoom) ≡ drops o
unfolding drops is_no_room
by_refusal f (Ok _) = refl
by_refusal f (Err Malformed) = refl
by_refusal f (Err OutOfRange) = refl
by_refusal f (Err NotAllowed) = refl
by_refusal f (Err NoRoom) = refl
by_refusal f (Err LongLine) = refl
by_refusal f (Err BadEvent) = refl
by_refusal f (Err NoReset) = refl
by_refusal f (Err LongScriptLine) = refl
by_refusal f (Err BadTraces) = refl
by_refusal f (Err BadStart) = refl
by_refusal f (Err BadState) = refl

pub returns : goal.returns
returns c = c.eq.ensures ∙ by_refusal _ c.args.outcome
