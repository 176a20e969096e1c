-- An answer that refuses tells one refusal and one place. Assumes nothing.
use Prim.Native.Nat.{ℕ}
use mathlib.Core.Path.{◌≡◌, ap}
use Rattle.std.specs.Prelude.{Ok, Err}
use Rattle.outcome.specs.declared.Refusal.{Refusal}
use Rattle.outcome.specs.declared.Refusal.TheVariants.{Malformed}
use Rattle.outcome.specs.Answer.{Answer, refused_at}

-- the refusal that an answer tells
abbrev refusal_in : Answer → Refusal
refusal_in (Ok _) = Malformed
refusal_in (Err e) = e.refusal

-- the place that it tells
abbrev place_in : Answer → ℕ
place_in (Ok _) = 0
place_in (Err e) = e.place

pub told_refusal : {r q : Refusal} {p n : ℕ} → refused_at r p ≡ refused_at q n → r ≡ q
told_refusal e = ap refusal_in e

pub told_place : {r q : Refusal} {p n : ℕ} → refused_at r p ≡ refused_at q n → p ≡ n
told_place e = ap place_in e
