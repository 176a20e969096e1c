-- What only inner functions are held to: what is reported of a reply, and the slot at which sending begins (§7.3,
-- §12.4). No promise of a public call speaks of these.
use Rattle.std.specs.Prelude.{ℕ, ◌%◌, cond, ◌≡◌, List, eqb, length, Option, Some, None}
use Rattle.reply_buffer.specs.Buffer.{overwrite, fits_in, sent_bytes}

-- what is reported of a reply: how many bytes were written, where it fits
abbrev pub sent_by : List ℕ → ℕ → Option ℕ
sent_by bytes room = cond (fits_in bytes room) (Some (length bytes)) None

-- the code's result r and the reply room `new` are those of sending bytes; the room was `old` before
pub record Sends (bytes : List ℕ) (r : Option ℕ) (new old : List ℕ) : Type 0 where
  pub sent : r ≡ sent_by bytes (length old)
  pub reply : new ≡ overwrite (sent_bytes bytes (length old)) old

-- §7.3: the slot of an index that is counted on past the trace's last slot; 0 where there is no slot
abbrev pub slot_of : ℕ → ℕ → ℕ
slot_of slots place = cond (eqb slots 0) 0 (place % slots)
