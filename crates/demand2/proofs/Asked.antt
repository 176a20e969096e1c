-- A line that is one query: what a call with it replies, and how 3 refuses it. Assumes nothing.
use Prim.Native.Nat.{ℕ, ◌≤◌}
use mathlib.Core.Bool.{true, false}
use mathlib.Core.Path.{◌≡◌, ◌∙◌}
use mathlib.Core.List.{List}
use lib.ListN.{length}
use borrow.Author.Tests.{le-leb}
use Rattle.outcome.specs.declared.Refusal.TheVariants.{NotAllowed}
use Rattle.outcome.specs.Code.{done}
use Rattle.outcome.specs.Answer.{first_of, drops, refused_at}
use Rattle.command.specs.declared.QueryArgument.{QueryArgument}
use Rattle.command.specs.declared.Kind.TheVariants.{Query}
use Rattle.state.specs.Storing.{stored_in}
use Rattle.precondition.specs.Allowed.{query_allowed, is_allowed}
use Rattle.effect.specs.Effect.{storage_after, state_after}
use Rattle.reply_buffer.specs.Buffer.{fits_in}
use Rattle.reply.specs.Reply.{query_reply, reply_of}
use Rattle.line.specs.Perform.{done_by, performed}
use Rattle.line.specs.Line.{after_of}
use Rattle.module.specs.Module.{guard_of}
use Rattle.module.specs.declared.Module.{Module}
use Rattle.lockin.specs.Calls.{line_call}
use Rattle.invariant.proofs.OneCommand.{Says, said_call}
use Rattle.demand2.specs.Demand2.{answered}

module _ (text : List ℕ) (q : QueryArgument) (says : Says text (Query q)) (room : ℕ) (m : Module) (one two : List ℕ)
    (passes : guard_of m (length one) (length two) ≡ done)
  where
    -- a query that clears nothing, with room for its reply
    pub asked_call : (out : List ℕ) → state_after (Query q) m.state ≡ m.state →
        query_allowed m.state.acquisition q ≡ true → query_reply q m.state false one two ≡ out → length out ≤ room →
        line_call room text m one two ≡ answered out m one two
    unfolding performed is_allowed reply_of fits_in done_by storage_after stored_in after_of first_of drops
    asked_call out same allowed reply fits =
        said_call text (Query q) says room m one two passes ∙ rw (allowed, reply, le-leb (length out) room fits, same)

    -- a query that 3 refuses
    pub asked-refused : query_allowed m.state.acquisition q ≡ false →
        (line_call room text m one two).report.answer ≡ refused_at NotAllowed 1
    unfolding performed is_allowed after_of first_of
    asked-refused refused = rw (said_call text (Query q) says room m one two passes, refused)
