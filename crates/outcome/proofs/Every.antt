-- A rule over the refusals is one test that computes; and a refusal's number tells which it is. Assumes nothing.
use Prim.Native.Nat.{ℕ, ◌-◌}
use mathlib.Core.Path.{◌≡◌, refl, sym, ap, ◌∙◌}
use mathlib.Core.Bool.{Bool, true, and-eq-true_iff}
use mathlib.Core.List.{List, [], ◌∷◌}
use lib.ListN.{get_or}
use Rattle.laws.proofs.Lists.{all, all_at}
use Rattle.outcome.specs.Code.{code_of}
use Rattle.outcome.specs.declared.Refusal.{Refusal}
use Rattle.outcome.specs.declared.Refusal.TheVariants.{Malformed, OutOfRange, NotAllowed, NoRoom, LongLine}
use Rattle.outcome.specs.declared.Refusal.TheVariants.{BadEvent, NoReset, LongScriptLine, BadTraces}
use Rattle.outcome.specs.declared.Refusal.TheVariants.{BadStart, BadState}

-- every refusal, in the order of the numbers, from 1
abbrev pub every_refusal : List Refusal
every_refusal =
    Malformed ∷ OutOfRange ∷ NotAllowed ∷ NoRoom ∷ LongLine ∷ BadEvent ∷ NoReset ∷ LongScriptLine ∷ BadTraces
    ∷ BadStart ∷ BadState ∷ []

-- the refusal of a number
abbrev pub refusal_of : ℕ → Refusal
refusal_of n = get_or every_refusal (n - 1) Malformed

pub by_number : (r : Refusal) → refusal_of (code_of r).number ≡ r
by_number Malformed = refl
by_number OutOfRange = refl
by_number NotAllowed = refl
by_number NoRoom = refl
by_number LongLine = refl
by_number BadEvent = refl
by_number NoReset = refl
by_number LongScriptLine = refl
by_number BadTraces = refl
by_number BadStart = refl
by_number BadState = refl

-- no two refusals have one number
pub same_refusal : (r s : Refusal) → (code_of r).number ≡ (code_of s).number → r ≡ s
same_refusal r s e = sym (by_number r) ∙ ap refusal_of e ∙ by_number s

-- a test that computes to true over the list holds of each refusal
pub refusal_rule : (p : Refusal → Bool) → all p every_refusal ≡ true → (r : Refusal) → p r ≡ true
refusal_rule p t r =
    rw (← by_number r)
    (all_at p Malformed ((and-eq-true_iff (p Malformed) _).0 t).0 every_refusal t ((code_of r).number - 1))
