-- `command::query_with` meets its contract, case by case. Assumes nothing.
use mathlib.Core.Path.{sym, ◌∙◌}
use native.Mathlib.Omega.{arith}
use Rattle.command.specs.Parsed.{query_with}
use Rattle.command.proofs.Exact.{channel_asked_lem, pair_asked_lem, enable_asked_lem, status_asked_lem, trace_asked_lem}
use Rattle.command.proofs.query_with.Goals as goal

pub returns-in-Channel : goal.returns-in-Channel
unfolding query_with
returns-in-Channel c = rw c.in-Channel.is (c.query_channel.ensures ∙ sym (channel_asked_lem _ _ (omega arith) _))

pub returns-in-ChannelPair : goal.returns-in-ChannelPair
unfolding query_with
returns-in-ChannelPair c = rw c.in-ChannelPair.is (c.query_pair.ensures ∙ sym (pair_asked_lem _ _ (omega arith) _))

pub returns-in-Enable : goal.returns-in-Enable
unfolding query_with
returns-in-Enable c = rw c.in-Enable.is (c.query_enable.ensures ∙ sym (enable_asked_lem _ _))

pub returns-in-Status : goal.returns-in-Status
unfolding query_with
returns-in-Status c = rw c.in-Status.is (c.query_status.ensures ∙ sym (status_asked_lem _ _))

pub returns-in-Trace : goal.returns-in-Trace
unfolding query_with
returns-in-Trace c = rw c.in-Trace.is (c.query_trace.ensures ∙ sym (trace_asked_lem _ _))
