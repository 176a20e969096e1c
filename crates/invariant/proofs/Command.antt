-- A command does nothing, is refused by 1 to 4, or is one that may be done and is. Assumes nothing.
use Prim.Native.Nat.{ℕ, ◌≤◌}
use native.Mathlib.Omega.{arith}
use mathlib.Core.Path.{◌≡◌, refl}
use mathlib.Core.Bool.{Bool, true, false, cond}
use mathlib.Core.List.{List}
use Rattle.std.specs.Prelude.{Some, None, Ok, Err}
use Rattle.outcome.specs.Code.{code_of}
use Rattle.outcome.specs.declared.Refusal.{Refusal}
use Rattle.outcome.specs.declared.Refusal.TheVariants.{NotAllowed, NoRoom}
use Rattle.command.specs.declared.Kind.{Kind}
use Rattle.command.specs.Parsed.{Parsed}
use Rattle.state.specs.declared.State.{State}
use Rattle.precondition.specs.Allowed.{is_allowed}
use Rattle.reply_buffer.specs.Buffer.{fits_in}
use Rattle.reply.specs.Reply.{reply_of}
use Rattle.line.specs.Perform.{Effect, refused_by, nothing, done_by, performed, command_of}
use Rattle.invariant.proofs.Storable.{Storable, StorableParsed}

module _ (room : ℕ) (waiting : Bool) (s : State) (one two : List ℕ) (P : Effect → Type 0) where
  -- a command that was read is refused by 3 or 4, or is done
  pub performed_by : (kind : Kind) → ((r : Refusal) → (code_of r).number ≤ 4 → P (refused_by r s one two))
      → (is_allowed s.settings s.acquisition kind ≡ true → P (done_by kind (reply_of kind s waiting one two) s one two))
      → P (performed room waiting kind s one two)
  unfolding performed
  performed_by kind refused done = by (is_allowed s.settings s.acquisition kind) (fits_in (reply_of kind s waiting one two) room) refl where
    by : (a f : Bool) → is_allowed s.settings s.acquisition kind ≡ a
        → P (cond a (cond f (done_by kind (reply_of kind s waiting one two) s one two) (refused_by NoRoom s one two)) (refused_by NotAllowed s one two))
    by true true p = done p
    by true false p = refused NoRoom (omega arith)
    by false f p = refused NotAllowed (omega arith)

  module _ (none : P (nothing s one two))
      (refused : (r : Refusal) → (code_of r).number ≤ 4 → P (refused_by r s one two))
      (done : (kind : Kind) → Storable kind → is_allowed s.settings s.acquisition kind ≡ true → P (done_by kind (reply_of kind s waiting one two) s one two))
    where
      pub command_by : (p : Parsed) → StorableParsed p → P (command_of room waiting p s one two)
      unfolding command_of
      command_by (Ok None) k = none
      command_by (Err r) k = refused r (omega arith)
      command_by (Ok (Some c)) k = performed_by c.kind refused (done c.kind k)
