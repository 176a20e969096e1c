-- Storage of points: its four states and what STRT, PAUS and REST make of them (§7.2), slots (§7.3), its end (§7.4),
-- triggers and ticks (§7.6, §7.7, §7.8), bins (§7.9), and which storage a state may have (§12.11).
use Rattle.std.specs.Prelude.{ℕ, ◌+◌, ◌-◌, ◌^◌, min, Bool, true, cond, not, ◌&&◌, ◌||◌, leb, ltb, eqb}
use Rattle.storage.specs.declared.Phase.{Phase}
use Rattle.storage.specs.declared.Phase.TheVariants.{Reset, Running, Paused, Done}
use Rattle.storage.specs.declared.Storage.{Storage}
use Rattle.storage.specs.declared.Sampling.{Sampling}
use Rattle.storage.specs.declared.StorageStep.{StorageStep}

-- §7.6 and §7.7: SRAT at which a trigger stores, and no tick
abbrev pub external_rate : ℕ
external_rate = 14

-- §7.4: SEND for one shot: storage is done once it is full
abbrev pub one_shot : ℕ
one_shot = 0

-- §7.4: SEND for a loop: a full storage goes on, over its oldest points
abbrev pub loop : ℕ
loop = 1

-- §7.6: TSTR with which a trigger starts storage
abbrev pub trigger_starts : ℕ
trigger_starts = 1

-- §7.8: LIA bit 6: a trigger set storage running or stored a pair
abbrev pub bit6 : ℕ
bit6 = 2 ^ 6

-- §7.2: a number for each of the four states, here called phases, by which they are compared
abbrev pub number : Phase → ℕ
number Reset = 0
number Running = 1
number Paused = 2
number Done = 3

-- §7.2: whether storage is in the phase p
abbrev pub is_in : Phase → Storage → Bool
is_in p s = eqb (number s.phase) (number p)

-- §7.2: whether storage is reset
unfoldable pub is_reset : Storage → Bool
is_reset s = is_in Reset s

-- §7.2: whether storage is running
unfoldable pub is_running : Storage → Bool
is_running s = is_in Running s

-- §7.2: whether storage is paused
unfoldable pub is_paused : Storage → Bool
is_paused s = is_in Paused s

-- §7.2 and §7.4: whether storage is done (a term of document 01): full in one shot
unfoldable pub is_done : Storage → Bool
is_done s = is_in Done s

-- storage with the same points, in the phase p
abbrev pub in_phase : Phase → Storage → Storage
in_phase p s = record { phase = p; held = s.held; next = s.next }

-- §7.2: after STRT: running, if it was reset or paused, else as it was
unfoldable pub started_of : Storage → Storage
started_of s = cond (is_reset s || is_paused s) (in_phase Running s) s

-- §7.2: after PAUS: paused, if it was running, else as it was
unfoldable pub paused_of : Storage → Storage
paused_of s = cond (is_running s) (in_phase Paused s) s

-- §7.2: after REST: reset, with no point
abbrev pub emptied_storage : Storage
emptied_storage = record { phase = Reset; held = 0; next = 0 }

-- §10.5: reset or done: bit 0 of the status byte
unfoldable pub at_rest : Storage → Bool
at_rest s = is_reset s || is_done s

-- §7.3: slot (a term of document 01): a word of a trace, from 0; the next is one further, and slot 0 after the last
unfoldable pub next_slot : ℕ → ℕ → ℕ
next_slot slot capacity = cond (ltb (slot + 1) capacity) (slot + 1) 0

-- §7.9: how many points are held once one more is stored: at most the capacity
unfoldable pub held_after : ℕ → ℕ → ℕ
held_after held capacity = min (held + 1) capacity

-- §7.4: whether held points fill the capacity
abbrev pub is_full : ℕ → ℕ → Bool
is_full held capacity = leb capacity held

-- §7.4: whether held points fill storage in one shot
unfoldable pub full_in_one_shot : ℕ → ℕ → ℕ → Bool
full_in_one_shot held capacity end = eqb end one_shot && is_full held capacity

-- §7.3 and §7.4: storage once one more point is stored: in one shot it is done with the point that fills it; in a loop
-- that is full the point takes the slot of the oldest
unfoldable pub stored_of : Storage → ℕ → ℕ → Storage
stored_of s capacity end =
    record {
      phase = cond (full_in_one_shot (held_after s.held capacity) capacity end) Done s.phase;
      held = held_after s.held capacity;
      next = next_slot s.next capacity;
    }

-- §7.6 and §7.7: storage once the latest pair is stored, or not
abbrev pub storing : Bool → Storage → ℕ → ℕ → Storage
storing stores s capacity end = cond stores (stored_of s capacity end) s

-- §7.7: whether a tick stores the latest pair: where storage runs at any rate but the external one
unfoldable pub tick_stores : Storage → Sampling → Bool
tick_stores s by = is_running s && not (eqb by.rate external_rate)

-- §7.7 and §7.8: what a tick does; it sets no LIA bit
unfoldable pub ticked_of : Storage → ℕ → Sampling → StorageStep
ticked_of s capacity by =
    record { storage = storing (tick_stores s by) s capacity by.end; stores = tick_stores s by; bits = 0 }

-- §7.6: storage once a trigger has started it, where TSTR says so
unfoldable pub readied_of : Storage → Sampling → Storage
readied_of s by = cond (eqb by.start trigger_starts) (started_of s) s

-- §7.6: whether a trigger stores the latest pair: where storage then runs at the external rate
unfoldable pub trigger_stores : Storage → Sampling → Bool
trigger_stores s by = is_running (readied_of s by) && eqb by.rate external_rate

-- §7.8: whether a trigger sets storage running
unfoldable pub sets_running : Storage → Sampling → Bool
sets_running s by = not (is_running s) && is_running (readied_of s by)

-- §7.6 and §7.8: what a trigger does; LIA bit 6 tells that it did anything
unfoldable pub triggered_of : Storage → ℕ → Sampling → StorageStep
triggered_of s capacity by =
    record {
      storage = storing (trigger_stores s by) (readied_of s by) capacity by.end;
      stores = trigger_stores s by;
      bits = cond (sets_running s by || trigger_stores s by) bit6 0;
    }

-- §7.9: bin (a term of document 01): a point's number among those held. Bin 0, the oldest, is as many slots before the
-- next one as points are held, counted round, so that bin j is in slot (oldest + j) mod capacity
unfoldable pub oldest_of : Storage → ℕ → ℕ
oldest_of s capacity = s.next + (capacity - s.held)

-- §8.4: whether storage holds count points from a bin on
unfoldable pub holds_of : Storage → ℕ → ℕ → Bool
holds_of s bin count = leb (bin + count) s.held

-- §12.11: at most the capacity is held, the next slot is one of the capacity's, and it is the number held while storage
-- is not full, since points go to the slots in turn (§7.3)
unfoldable pub slots_kept : Storage → ℕ → Bool
slots_kept s capacity =
    leb s.held capacity && ltb s.next capacity && (is_full s.held capacity || eqb s.next s.held)

-- §7.4 and §12.11: done exactly where storage is full in one shot; the next slot is then 0
unfoldable pub done_kept : Storage → ℕ → ℕ → Bool
done_kept s capacity end = cond (full_in_one_shot s.held capacity end) (is_done s && eqb s.next 0) (not (is_done s))

-- §7.2 and §12.11: storage that is reset holds no point
unfoldable pub reset_kept : Storage → Bool
reset_kept s = cond (is_reset s) (eqb s.held 0) true

-- §12.11: whether a state may have this storage: its part of refusal 11
unfoldable pub is_valid : Storage → ℕ → ℕ → Bool
is_valid s capacity end = slots_kept s capacity && done_kept s capacity end && reset_kept s
