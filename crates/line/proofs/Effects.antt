-- A command's effect, by the test that decides it, and its reply, which fits the room. Assumes nothing.
use Prim.Native.Nat.{ℕ, ◌<◌, ◌≤◌}
use mathlib.Core.Bool.{Bool, true, false}
use mathlib.Core.Path.{◌≡◌, refl, ap}
use mathlib.Core.List.{List}
use native.Mathlib.Omega.{arith}
use borrow.Author.Tests.{le-leb, lt-leb, leb-true}
use lib.Dec.{leb}
use lib.ListN.{length}
use Rattle.laws.proofs.Tests.{split}
use Rattle.std.specs.Prelude.{Some, None, Ok, Err}
use Rattle.outcome.specs.declared.Refusal.TheVariants.{NotAllowed, NoRoom}
use Rattle.outcome.specs.Code.{done}
use Rattle.outcome.specs.Answer.{Answer, first_of}
use Rattle.command.specs.Parsed.{Parsed}
use Rattle.command.specs.declared.Kind.{Kind}
use Rattle.state.specs.declared.State.{State}
use Rattle.precondition.specs.Allowed.{is_allowed}
use Rattle.effect.specs.Effect.{state_after}
use Rattle.reply_buffer.specs.Buffer.{fits_in}
use Rattle.reply.specs.declared.Reply.{Reply}
use Rattle.reply.specs.Reply.{reply_of}
use Rattle.reply.specs.Parts.{bytes_said}
use Rattle.line.specs.Perform.{refused_by, storage_step_by, done_by, performed, command_of}
use Rattle.line.specs.Parts.{written_by}

-- what refuses nothing leaves a line's answer
pub answer-stays : (a : Answer) (n : ℕ) → a ≡ first_of a done n
unfolding first_of
answer-stays (Ok tt) n = refl
answer-stays (Err e) n = refl

-- one command, by the test that decides it
module _ (room : ℕ) (waiting : Bool) (kind : Kind) (s : State) (one two : List ℕ) where
  -- 3 refuses it
  pub by_three : is_allowed s.settings s.acquisition kind ≡ false →
      refused_by NotAllowed s one two ≡ performed room waiting kind s one two
  unfolding performed
  by_three e = rw e

  module _ (reply : Reply) (said : bytes_said reply one two ≡ reply_of kind s waiting one two)
      (n : ℕ) (long : n ≡ length (bytes_said reply one two))
      (allowed : is_allowed s.settings s.acquisition kind ≡ true)
    where
      -- 4 refuses it
      pub by_four : room < n → refused_by NoRoom s one two ≡ performed room waiting kind s one two
      unfolding performed fits_in
      by_four h =
          let e : leb (length (reply_of kind s waiting one two)) room ≡ false =
          lt-leb (length (reply_of kind s waiting one two)) room (omega (arith, ap length said)) in
          rw (allowed, e)

      -- it is done
      pub as_planned : n ≤ room →
          written_by (record { kind = kind; reply = reply; step = storage_step_by kind s }) s one two
          ≡ performed room waiting kind s one two
      unfolding performed done_by written_by state_after fits_in
      as_planned h =
          let e : leb (length (reply_of kind s waiting one two)) room ≡ true =
          le-leb (length (reply_of kind s waiting one two)) room (omega (arith, ap length said)) in
          rw (allowed, e, said)

-- a reply fits the room that is left for it
performed-fits : (room : ℕ) (waiting : Bool) (kind : Kind) (s : State) (one two : List ℕ) →
    length (performed room waiting kind s one two).out ≤ room
unfolding performed done_by fits_in
performed-fits room waiting kind s one two =
    let reply = reply_of kind s waiting one two in
    split (is_allowed s.settings s.acquisition kind)
    (λ e. rw e (split (leb (length reply) room) (λ f. rw f (leb-true (length reply) room f)) (λ f. rw f (omega arith))))
    (λ e. rw e (omega arith))

pub command-fits : (room : ℕ) (waiting : Bool) (p : Parsed) (s : State) (one two : List ℕ) →
    length (command_of room waiting p s one two).out ≤ room
unfolding command_of
command-fits room waiting (Ok None) s one two = omega arith
command-fits room waiting (Err r) s one two = omega arith
command-fits room waiting (Ok (Some c)) s one two = performed-fits room waiting c.kind s one two
