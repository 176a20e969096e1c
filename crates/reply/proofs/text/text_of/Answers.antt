-- `reply::text_of` meets its contract: an arm for each query. Assumes nothing.
use native.Mathlib.Omega.{arith}
use Rattle.reply.specs.Text.{text_of}
use Rattle.reply.proofs.Texts.{says_as, says_none}
use Rattle.reply.proofs.text.text_of.Goals as goal

pub returns-in-Value : goal.returns-in-Value
unfolding text_of
returns-in-Value c = says_as 27 c.value_text.ensures (omega arith) (rw c.in-Value.is)

pub returns-in-Pair : goal.returns-in-Pair
unfolding text_of
returns-in-Pair c = says_as 27 c.pair_text.ensures (omega arith) (rw c.in-Pair.is)

pub returns-in-Enable : goal.returns-in-Enable
unfolding text_of
returns-in-Enable c =
    says_as 27 c.plain_text.ensures (omega arith)
    (rw (c.enable_of.ensures, c.in-Enable.is))

pub returns-in-EnableBit : goal.returns-in-EnableBit
unfolding text_of
returns-in-EnableBit c =
    says_as 27 c.plain_text-in-EnableBit.ensures (omega arith)
    (rw (
      c.bit_of.ensures,
      c.enable_of-in-EnableBit.ensures,
      c.in-EnableBit.is,
    ))

pub returns-in-Status : goal.returns-in-Status
unfolding text_of
returns-in-Status c =
    says_as 27 c.plain_text-in-Status.ensures (omega arith)
    (rw (c.status_of.ensures, c.in-Status.is))

pub returns-in-StatusBit : goal.returns-in-StatusBit
unfolding text_of
returns-in-StatusBit c =
    says_as 27 c.plain_text-in-StatusBit.ensures (omega arith)
    (rw (
      c.bit_of-in-StatusBit.ensures,
      c.status_of-in-StatusBit.ensures,
      c.in-StatusBit.is,
    ))

pub returns-in-Identity : goal.returns-in-Identity
unfolding text_of
returns-in-Identity c = says_as 27 c.identity_text.ensures (omega arith) (rw c.in-Identity.is)

pub returns-in-Points : goal.returns-in-Points
unfolding text_of
returns-in-Points c = says_as 27 c.plain_text-in-Points.ensures (omega arith) (rw c.in-Points.is)

pub returns-in-Trace : goal.returns-in-Trace
unfolding text_of
returns-in-Trace c = says_as 27 (says_none c.empty.ensures) (omega arith) (rw c.in-Trace.is)
