-- `event::sample` meets its contract. Assumes nothing.
use Rattle.event.specs.Event.{sampled_in}
use mathlib.Core.Path.{sym}
use mathlib.Core.List.{[]}
use Rattle.reply_buffer.proofs.Over.{over_none}
use Rattle.event.proofs.sample.Goals as goal

pub returns : goal.returns
unfolding sampled_in
returns c =
    record {
      result = rw c.sampled.ensures;
      first = c.store.ensures.0;
      second = c.store.ensures.1;
      reply = sym (over_none []);
    }
