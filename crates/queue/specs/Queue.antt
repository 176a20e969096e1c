-- The queue of bytes that wait for their line's end: §2.1, §2.2 and §2.3, and which queue a state may have (§12.11).
use Rattle.std.specs.Prelude.{ℕ, ◌+◌, Bool, true, false, cond, not, ◌&&◌, ◌||◌, leb, ltb, eqb}
use Rattle.std.specs.Prelude.{List, [], ◌∷◌, take, set, replicate}
pub use Rattle.line_text.specs.Clean.{line_limit, cr, lf}
use Rattle.queue.specs.declared.Queue.{Queue}
use Rattle.queue.specs.declared.LineEnd.{LineEnd}
use Rattle.queue.specs.declared.LineEnd.TheVariants.{Nothing, Line, TooLong}

-- §1.2: the number of the RS232 port
abbrev pub rs232 : ℕ
rs232 = 0

-- §1.2: the number of the GPIB port
abbrev pub gpib : ℕ
gpib = 1

-- §2.2: the bytes that wait: the line so far
abbrev pub waiting_bytes : Queue → List ℕ
waiting_bytes q = take q.len q.bytes

-- §1.2: the queue at start: no byte waits, and none is discarded
abbrev pub empty_queue : Queue
empty_queue = record { bytes = replicate line_limit 0; len = 0; discarding = false }

-- §2.2 and §2.3: the queue with its bytes taken out
abbrev pub emptied_of : Queue → Queue
emptied_of q = record { bytes = q.bytes; len = 0; discarding = false }

-- §2.2: the queue once a line that ended has run
abbrev pub after_run : LineEnd → Queue → Queue
after_run Nothing q = q
after_run Line q = emptied_of q
after_run TooLong q = q

-- §2.3: the queue with bytes discarded from here on, or not
abbrev pub discarding_is : Bool → Queue → Queue
discarding_is t q = record { bytes = q.bytes; len = q.len; discarding = t }

-- §2.2: the queue with the byte b added
abbrev pub longer : Queue → ℕ → Queue
longer q b = record { bytes = set q.bytes q.len b; len = q.len + 1; discarding = q.discarding }

-- §2.1: whether a byte ends a line by itself: LF on both ports, CR on RS232
unfoldable pub ends_line : ℕ → ℕ → Bool
ends_line port b = eqb b lf || (eqb port rs232 && eqb b cr)

-- §2.1: whether a byte's end mark ends a line: not on RS232
unfoldable pub is_marked : ℕ → Bool → Bool
is_marked port mark = not (eqb port rs232) && mark

-- §2.1: whether a byte ends a line, by itself or by its end mark
abbrev pub is_end : ℕ → ℕ → Bool → Bool
is_end port b mark = ends_line port b || is_marked port mark

-- §2.2: the queue after a byte, and what the byte ends
pub record Received : Type 0 where
  pub queue : Queue
  pub ending : LineEnd

-- §2.3: a byte that is discarded, after a line that was too long: with the line's end the discarding ends
unfoldable pub dropped_of : Queue → Bool → Received
dropped_of q ends = record { queue = discarding_is (not ends) q; ending = Nothing }

-- §2.3: the first byte past the line limit, refusal 5 (§12.5): the queue is emptied and the rest of the line is
-- discarded; there is no rest where this byte has an end mark
unfoldable pub too_long_of : Queue → Bool → Received
too_long_of q marked = record { queue = discarding_is (not marked) (emptied_of q); ending = TooLong }

-- §2.1 and §2.3: a byte that ends no line by itself: one that fits is added, and ends the line where it is marked
unfoldable pub appended_of : Queue → ℕ → Bool → Received
appended_of q b marked =
    cond (ltb q.len line_limit) (record { queue = longer q b; ending = cond marked Line Nothing })
    (too_long_of q marked)

-- §2.1, §2.2 and §2.3: any byte: one that ends a line by itself is no part of it, and its end mark ends no second line
unfoldable pub received_of : Queue → ℕ → ℕ → Bool → Received
received_of q port b mark =
    cond q.discarding (dropped_of q (is_end port b mark))
    (cond (ends_line port b) (record { queue = q; ending = Line }) (appended_of q b (is_marked port mark)))

-- §12.11: whether no byte of these ends a line
unfoldable pub no_end : ℕ → List ℕ → Bool
no_end port [] = true
no_end port (b ∷ bs) = not (ends_line port b) && no_end port bs

-- §12.11: whether a state may have this queue, its part of refusal 11: no more bytes wait than a line has, none of them
-- ends a line of the port, and none waits while bytes are discarded
unfoldable pub is_valid : Queue → ℕ → Bool
is_valid q port = leb q.len line_limit && (not q.discarding || eqb q.len 0) && no_end port (waiting_bytes q)
