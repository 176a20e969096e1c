-- `queue::step_of` meets its contract: each return by the tests on the way. Assumes nothing.
use mathlib.Core.Path.{refl, sym, ◌∙◌}
use Rattle.queue.specs.Queue.{received_of, dropped_of}
use Rattle.queue.proofs.step_of.Goals as goal

pub returns-then-discarding : goal.returns-then-discarding
unfolding received_of dropped_of
returns-then-discarding c =
    record {
      received = λ bytes. rw (c.if-discarding.true, c.is_marked-marked.ensures, c.ends_line-ends.ensures);
      run = λ bytes. refl;
    }

pub returns-then-ends : goal.returns-then-ends
unfolding received_of
returns-then-ends c =
    record {
      received = λ bytes. rw (c.if-discarding.false, sym c.ends_line-ends.ensures ∙ c.if-ends.true);
      run = λ bytes. refl;
    }

pub returns : goal.returns
unfolding received_of
returns c =
    record {
      received = λ bytes.
          rw (
            c.if-discarding.false,
            sym c.ends_line-ends.ensures ∙ c.if-ends.false,
            ← c.is_marked-marked.ensures,
          )
          (c.appended.ensures.received bytes);
      run = c.appended.ensures.run;
    }
