-- A query's reply, sent as a text or as points. Assumes nothing.
use Prim.Native.Nat.{ℕ}
use mathlib.Core.Bool.{Bool}
use mathlib.Core.Path.{◌≡◌, refl, ◌∙◌}
use mathlib.Core.List.{List, [], ◌∷◌}
use native.Mathlib.Omega.{arith}
use Rattle.format.specs.Parts.{appended}
use Rattle.command.specs.declared.QueryArgument.{QueryArgument}
use Rattle.command.specs.declared.QueryArgument.TheVariants.{Value, Pair, Enable, EnableBit, Status, StatusBit}
use Rattle.command.specs.declared.QueryArgument.TheVariants.{Identity, Points, Trace}
use Rattle.command.specs.declared.Kind.{Kind}
use Rattle.command.specs.declared.Kind.TheVariants.{Set, Query, Act}
use Rattle.mnemonic.specs.declared.Form.{Form}
use Rattle.state.specs.declared.State.{State}
use Rattle.reply.specs.Text.{text_of, terminator_of}
use Rattle.reply.proofs.Texts.{Says, says_more}
use Rattle.reply.specs.Reply.{terminated_text, query_reply, reply_of}

-- a text with the end of its port
pub says-ended : (q : QueryArgument) (s : State) (waiting : Bool) (r t : List ℕ) (end : ℕ) →
    Says 27 t (text_of q s waiting) → end ≡ terminator_of s.installation.port → r ≡ appended t (end ∷ []) → r ≡ terminated_text q s waiting
unfolding terminated_text
says-ended q s waiting r t end h e p =
    (says_more 28 r t (end ∷ []) p (omega (arith, h.1)) (omega arith)).0 ∙ rw (h.0, e)

-- every query but a trace read replies a text
pub text_replied : (q : QueryArgument) (s : State) (waiting : Bool) (one two : List ℕ) →
    ((form : Form) (t bin count : ℕ) → q ≡ Trace form t bin count → ⊥)
    → query_reply q s waiting one two ≡ terminated_text q s waiting
unfolding query_reply
text_replied (Value entry) s waiting one two h = refl
text_replied (Pair entry) s waiting one two h = refl
text_replied (Enable which) s waiting one two h = refl
text_replied (EnableBit which i) s waiting one two h = refl
text_replied (Status which) s waiting one two h = refl
text_replied (StatusBit which i) s waiting one two h = refl
text_replied Identity s waiting one two h = refl
text_replied Points s waiting one two h = refl
text_replied (Trace form t bin count) s waiting one two h = absurd (h form t bin count refl)

-- a command that is no query replies nothing
pub none_replied : (kind : Kind) (s : State) (waiting : Bool) (one two : List ℕ) →
    ((q : QueryArgument) → kind ≡ Query q → ⊥) → reply_of kind s waiting one two ≡ []
unfolding reply_of
none_replied (Set a) s waiting one two h = refl
none_replied (Query q) s waiting one two h = absurd (h q refl)
none_replied (Act a) s waiting one two h = refl
