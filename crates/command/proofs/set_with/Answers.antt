-- `command::set_with` meets its contract, case by case. Assumes nothing.
use mathlib.Core.Path.{sym, ◌∙◌}
use native.Mathlib.Omega.{arith}
use Rattle.command.specs.Parsed.{set_with}
use Rattle.command.proofs.Exact.{setting_lem, channel_lem, pair_lem, enable_lem}
use Rattle.command.proofs.set_with.Goals as goal

pub returns-in-Setting : goal.returns-in-Setting
unfolding set_with
returns-in-Setting c = rw c.in-Setting.is (c.set_setting.ensures ∙ sym (setting_lem _ _))

pub returns-in-Channel : goal.returns-in-Channel
unfolding set_with
returns-in-Channel c = rw c.in-Channel.is (c.set_channel.ensures ∙ sym (channel_lem _ _ (omega arith) _))

pub returns-in-ChannelPair : goal.returns-in-ChannelPair
unfolding set_with
returns-in-ChannelPair c = rw c.in-ChannelPair.is (c.set_pair.ensures ∙ sym (pair_lem _ _ (omega arith) _))

pub returns-in-Enable : goal.returns-in-Enable
unfolding set_with
returns-in-Enable c = rw c.in-Enable.is (c.set_enable.ensures ∙ sym (enable_lem _ _))
