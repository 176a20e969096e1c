-- SPTS? and the trace queries reply what is held of the history. Assumes nothing.
use Prim.Native.Nat.{ℕ, zero, suc, ◌+◌, ◌-◌, ◌%◌, ◌≤◌, ◌<◌, min}
use native.Mathlib.Nat.{add-suc}
use native.Mathlib.Omega.{arith}
use mathlib.Core.Bool.{Bool, true, false, cond}
use mathlib.Core.List.{List, [], ◌∷◌, ◌++◌}
use mathlib.Core.Path.{◌≡◌, refl, sym, ap, ◌∙◌}
use lib.Dec.{leb, eqb}
use lib.ListN.{length, take, drop, length-drop}
use lib.Seq.{drop-cons, get_or-drop}
use Rattle.std.specs.Prelude.{Some}
use Rattle.split.specs.Ascii.{bytes}
use Rattle.split.specs.Divide.{parts, on_head}
use Rattle.line_text.specs.Clean.{cleaned}
use Rattle.number.specs.Number.{begins}
use Rattle.format.specs.Text.{plain}
use Rattle.mnemonic.specs.Names.{meaning_in, meaning_of}
use Rattle.mnemonic.specs.declared.Meaning.TheVariants as meaning
use Rattle.mnemonic.specs.declared.Form.{Form}
use Rattle.mnemonic.specs.declared.Form.TheVariants.{Words, Floats}
use Rattle.command.specs.Arguments.{arguments}
use Rattle.command.specs.Parsed.{parsed_of, alone, query_with}
use Rattle.command.specs.declared.QueryArgument.TheVariants as query
use Rattle.command.specs.declared.Kind.TheVariants.{Query}
use Rattle.storage.specs.Storage.{oldest_of, holds_of}
use Rattle.state.specs.declared.State.{State}
use Rattle.precondition.specs.Allowed.{query_allowed}
use Rattle.effect.specs.Effect.{registers_asked}
use Rattle.effect.specs.Effect.{state_after}
use Rattle.reply_buffer.specs.Buffer.{word_at, point_bytes}
use Rattle.reply.specs.Text.{text_of, terminator_of}
use Rattle.reply.specs.Reply.{terminated_text, trace_of, trace_reply, query_reply}
use Rattle.points.specs.Points.{History, InSlots, pair_at, Holds, held_of, trace_word, sent_points, trace_name, trace_query}
use Rattle.invariant.proofs.Meanings.{Name}
use Rattle.invariant.proofs.OneCommand.{Says}
use Rattle.demand2.proofs.Parsing.{trace-asked}
use Rattle.points.proofs.Slots.{bin_mod}
use Rattle.settings.specs.Limits.{capacity_most}

-- ---- points from a bin on

module _ (form : Form) (t : ℕ) (history : History) (c : ℕ) (trace : List ℕ) (some : 1 ≤ c) (fits : length trace ≡ c)
    (lies : InSlots (trace_word t) history c trace) where
  held-length : length (held_of c history) ≡ min (length history) c
  held-length = length-drop (length history - c) history ∙ omega arith

  -- the word of bin j
  bin_word : (j : ℕ) → j < min (length history) c →
      word_at trace (length history % c + (c - min (length history) c) + j) ≡ trace_word t (pair_at (held_of c history) j)
  unfolding word_at
  bin_word j l =
      rw (fits, bin_mod (length history) c j some)
      (lies (length history - c + j) (omega arith) (omega arith)
      ∙ ap (trace_word t) (sym (get_or-drop (length history - c) history j (record { one = 0; two = 0 }))))

  sent_is : (j count : ℕ) → j + count ≤ min (length history) c →
      point_bytes form trace (length history % c + (c - min (length history) c) + j) count
      ≡ sent_points form t (take count (drop j (held_of c history)))
  unfolding point_bytes sent_points
  sent_is j zero l = refl
  sent_is j (suc count) l =
      let inside : j < length (held_of c history) = omega (arith, held-length) in
      rw (
        drop-cons (held_of c history) j (record { one = 0; two = 0 }) inside,
        bin_word j (omega arith),
        ← add-suc (length history % c + (c - min (length history) c)) j,
        sent_is (suc j) count (omega arith),
      )

-- both words of a pair, by the trace asked for
lies_in : (t : ℕ) (history : History) (s : State) (one two : List ℕ) → Holds history s one two →
    InSlots (trace_word t) history s.installation.capacity (trace_of t one two)
lies_in t history s one two h = by (eqb t 1) where
  by : (b : Bool) → InSlots (λ p. cond b p.one p.two) history s.installation.capacity (cond b one two)
  by true = h.first
  by false = h.second

trace-length : (t n : ℕ) (one two : List ℕ) → length one ≡ n → length two ≡ n → length (trace_of t one two) ≡ n
trace-length t n one two p q = by (eqb t 1) where
  by : (b : Bool) → length (cond b one two) ≡ n
  by true = p
  by false = q

-- ---- the texts of the queries

pub says-points : Says (bytes "SPTS?") (Query query.Points)
unfolding cleaned parts on_head parsed_of begins meaning_in query_with arguments alone
says-points = record { short = omega arith; kept = refl; single = refl; read = refl }

trace-name : (form : Form) → Name (trace_name form)
trace-name Words = record { four = refl; bytes = refl }
trace-name Floats = record { four = refl; bytes = refl }

trace_means : (form : Form) → meaning_of (trace_name form) ≡ Some (meaning.Trace form)
unfolding meaning_in
trace_means Words = refl
trace_means Floats = refl

pub says-trace : (form : Form) (t bin count : ℕ) → 1 ≤ t → t ≤ 2 → bin ≤ capacity_most → 1 ≤ count → count ≤ capacity_most →
    Says (trace_query form t bin count) (Query (query.Trace form t bin count))
says-trace form t bin count = trace-asked (trace_name form) (trace-name form) form t bin count (trace_means form)

-- ---- neither changes the state

pub points-same : (s : State) → state_after (Query query.Points) s ≡ s
unfolding state_after registers_asked
points-same s = refl

pub trace-same : (s : State) (form : Form) (t bin count : ℕ) → state_after (Query (query.Trace form t bin count)) s ≡ s
unfolding state_after registers_asked
trace-same s form t bin count = refl

-- ---- the replies

module _ (history : History) (s : State) (one two : List ℕ) (h : Holds history s one two) where
  pub points-reply : query_reply query.Points s false one two ≡ plain (min (length history) s.installation.capacity) ++
      (terminator_of s.installation.port ∷ [])
  unfolding query_reply terminated_text text_of
  points-reply = rw h.held

  pub trace_allowed : (form : Form) (t bin count : ℕ) →
      query_allowed s.acquisition (query.Trace form t bin count) ≡ leb (bin + count)
      (min (length history) s.installation.capacity)
  unfolding query_allowed holds_of
  trace_allowed form t bin count = rw h.held

  pub trace-reply : 1 ≤ s.installation.capacity → length one ≡ s.installation.capacity → length two ≡ s.installation.capacity →
      (form : Form) (t bin count : ℕ) → bin + count ≤ min (length history) s.installation.capacity →
      query_reply (query.Trace form t bin count) s false one two ≡ sent_points form t
      (take count (drop bin (held_of s.installation.capacity history)))
  unfolding query_reply trace_reply oldest_of
  trace-reply some first second form t bin count l =
      rw (h.held, h.next)
      (sent_is form t history s.installation.capacity (trace_of t one two) some
      (trace-length t s.installation.capacity one two first second)
      (lies_in t history s one two h) bin count l)
