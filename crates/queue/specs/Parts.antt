-- The parts in which the code takes a byte and tests a queue, each by what `Queue` defines. No promise of a public call
-- speaks of these.
use Rattle.std.specs.Prelude.{ℕ, ◌≡◌, Bool, cond, ◌&&◌, List, ltb, set}
use Rattle.queue.specs.Queue.{Received, line_limit, after_run}
use Rattle.queue.specs.declared.Queue.{Queue}
use Rattle.queue.specs.declared.QueueStep.{QueueStep}

-- a queue from its parts
abbrev pub queue_of : List ℕ → ℕ → Bool → Queue
queue_of bytes len discarding = record { bytes = bytes; len = len; discarding = discarding }

-- the bytes with the byte b at an offset, if it is stored and there is room
abbrev pub bytes_with : Bool → ℕ → ℕ → List ℕ → List ℕ
bytes_with stores at b bytes = cond (stores && ltb at line_limit) (set bytes at b) bytes

-- the step r says what a byte b does to every queue in which len bytes wait: received, the result, which is the queue
-- after it and what it ends; run, the queue once a line that ended has run
pub record Describes (result : List ℕ → Received) (len b : ℕ) (r : QueueStep) : Type 0 where
  pub received : (bytes : List ℕ) → result bytes
      ≡ record { queue = queue_of (bytes_with r.stores len b bytes) r.line r.discarding; ending = r.ending }
  pub run : (bytes : List ℕ) → after_run r.ending (queue_of bytes r.line r.discarding)
      ≡ queue_of bytes r.len r.discarding
