-- `reply::push_all` meets its contract: the text so far is the text at first with the bytes passed. Assumes
-- nothing.
use mathlib.Core.Path.{◌≡◌}
use lib.ListN.{take}
use Rattle.format.specs.Parts.{bytes_of, appended}
use Rattle.reply.proofs.text.push_all.Given as goal

abbrev pub invariant-loop-b : goal.invariant-loop-b
invariant-loop-b l = bytes_of l.text ≡ appended (bytes_of l.initial.text) (take l.b-index l.bytes)
