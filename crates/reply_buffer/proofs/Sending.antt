-- A reply that is sent whole, and one that does not fit. Assumes nothing.
use Prim.Native.Nat.{ℕ, ◌*◌, ◌<◌, ◌≤◌}
use mathlib.Core.Bool.{true, false}
use mathlib.Core.Path.{◌≡◌, ap, ◌∙◌}
use mathlib.Core.List.{List}
use native.Mathlib.Omega.{arith}
use borrow.Author.Tests.{le-leb, lt-leb}
use lib.Dec.{leb}
use lib.ListN.{length}
use Rattle.std.specs.Prelude.{Some, None}
use Rattle.mnemonic.specs.declared.Form.{Form}
use Rattle.reply_buffer.specs.Buffer.{overwrite, fits_in, sent_bytes, point_bytes}
use Rattle.reply_buffer.specs.Parts.{Sends, slot_of}
use Rattle.reply_buffer.proofs.Over.{point_bytes-length}
use Rattle.reply_buffer.proofs.Points.{points_slot}

-- a reply that does not fit leaves the room as it was
pub not-sent : (bytes room : List ℕ) → length room < length bytes →
    Sends bytes None room room
unfolding overwrite fits_in sent_bytes
not-sent bytes room h =
    let t : leb (length bytes) (length room) ≡ false = lt-leb (length bytes) (length room) h in
    record { sent = rw t; reply = rw t }

-- a reply that fits is sent whole
pub all_sent : (bytes room new : List ℕ) (n : ℕ) → length bytes ≡ n → n ≤ length room → new ≡ overwrite bytes room →
    Sends bytes (Some n) new room
unfolding fits_in sent_bytes
all_sent bytes room new n l h e =
    let t : leb (length bytes) (length room) ≡ true = le-leb (length bytes) (length room) (omega arith) in
    record { sent = rw (t, l); reply = rw t e }

-- points written from the slot of their place on
pub points-sent : (form : Form) (trace : List ℕ) (place count slot : ℕ) (room new : List ℕ) →
    slot ≡ slot_of (length trace) place → 4 * count ≤ length room → new ≡ overwrite (point_bytes form trace slot count) room →
    Sends (point_bytes form trace place count) (Some (4 * count)) new room
points-sent form trace place count slot room new e h p =
    all_sent (point_bytes form trace place count) room new (4 * count) (point_bytes-length form trace place count) h
    (p ∙ ap (λ bytes. overwrite bytes room) (ap (λ n. point_bytes form trace n count) e ∙ points_slot form trace place count))
