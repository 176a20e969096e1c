-- `queue::appended` meets its contract: byte 257 is too long, any other is appended. Assumes nothing.
use mathlib.Core.Path.{refl}
use borrow.Author.Tests.{lt-ltb, le-ltb}
use Rattle.queue.specs.Queue.{appended_of, too_long_of}
use Rattle.queue.proofs.appended.Goals as goal

pub returns-then-len-ge-LINE : goal.returns-then-len-ge-LINE
unfolding appended_of too_long_of
returns-then-len-ge-LINE c = record { received = λ bytes. rw (le-ltb _ _ c.if-len-ge-LINE.true); run = λ bytes. refl }

pub returns-then-marked : goal.returns-then-marked
unfolding appended_of
returns-then-marked c =
    let room = lt-ltb _ _ c.if-len-ge-LINE.false in
    record { received = λ bytes. rw (room, c.if-marked.true); run = λ bytes. refl }

pub returns : goal.returns
unfolding appended_of
returns c =
    let room = lt-ltb _ _ c.if-len-ge-LINE.false in
    record { received = λ bytes. rw (room, c.if-marked.false); run = λ bytes. refl }
