-- What a command replies: §7.9, §8.1, §8.3 and §11.3.
use Rattle.std.specs.Prelude.{ℕ, ◌+◌, Bool, cond, List, [], ◌∷◌, ◌++◌, eqb}
use Rattle.storage.specs.Storage.{oldest_of}
use Rattle.mnemonic.specs.declared.Form.{Form}
use Rattle.command.specs.declared.QueryArgument.{QueryArgument}
use Rattle.command.specs.declared.QueryArgument.TheVariants.{Value, Pair, Enable, EnableBit, Status, StatusBit}
use Rattle.command.specs.declared.QueryArgument.TheVariants.{Identity, Points, Trace}
use Rattle.command.specs.declared.Kind.{Kind}
use Rattle.command.specs.declared.Kind.TheVariants.{Set, Query, Act}
use Rattle.reply_buffer.specs.Buffer.{point_bytes}
use Rattle.state.specs.declared.State.{State}
use Rattle.reply.specs.Text.{text_of, terminator_of}

-- §11.3: a text with the byte that ends it on the port
unfoldable pub terminated_text : QueryArgument → State → Bool → List ℕ
terminated_text q s waiting = text_of q s waiting ++ (terminator_of s.installation.port ∷ [])

-- §8.1: trace 1 or trace 2
abbrev pub trace_of : ℕ → List ℕ → List ℕ → List ℕ
trace_of t one two = cond (eqb t 1) one two

-- §8.1: a trace read: its points from a bin on; §7.9: bins (a term of document 01) are counted from the oldest point;
-- §8.3: no end follows
unfoldable pub trace_reply : State → Form → ℕ → ℕ → ℕ → List ℕ → List ℕ → List ℕ
trace_reply s form t bin count one two =
    point_bytes form (trace_of t one two) (oldest_of s.acquisition.storage s.installation.capacity + bin) count

-- §8.1 and §11.3: what a query replies: points for a trace read, a text with its end for every other one
unfoldable pub query_reply : QueryArgument → State → Bool → List ℕ → List ℕ → List ℕ
query_reply (Trace form t bin count) s waiting one two = trace_reply s form t bin count one two
query_reply (Value entry) s waiting one two = terminated_text (Value entry) s waiting
query_reply (Pair entry) s waiting one two = terminated_text (Pair entry) s waiting
query_reply (Enable which) s waiting one two = terminated_text (Enable which) s waiting
query_reply (EnableBit which i) s waiting one two = terminated_text (EnableBit which i) s waiting
query_reply (Status which) s waiting one two = terminated_text (Status which) s waiting
query_reply (StatusBit which i) s waiting one two = terminated_text (StatusBit which i) s waiting
query_reply Identity s waiting one two = terminated_text Identity s waiting
query_reply Points s waiting one two = terminated_text Points s waiting

-- §1.1: only queries reply
unfoldable pub reply_of : Kind → State → Bool → List ℕ → List ℕ → List ℕ
reply_of (Set a) s waiting one two = []
reply_of (Query q) s waiting one two = query_reply q s waiting one two
reply_of (Act a) s waiting one two = []
