-- Replies one after another in the room that is lent, and how long they are. Assumes nothing.
use Prim.Native.Nat.{ℕ, zero, suc, ◌*◌, ◌≤◌}
use mathlib.Core.Path.{◌≡◌, refl}
use mathlib.Core.List.{List, [], ◌++◌, append_assoc}
use native.Mathlib.Omega.{arith}
use borrow.Author.Tests.{leb-true}
use lib.Dec.{leb}
use lib.ListN.{length, take, drop, length-append, length-drop}
use lib.Seq.{take-append_seam, drop-append_seam, drop-drop}
use Rattle.std.specs.Option.{IfSome}
use Rattle.laws.proofs.Tests.{split}
use Rattle.point.specs.Bytes.{low_first, little_endian}
use Rattle.mnemonic.specs.declared.Form.{Form}
use Rattle.reply_buffer.specs.Buffer.{overwrite, fits_in, sent_bytes, point_bytes}
use Rattle.reply_buffer.specs.Parts.{sent_by}

-- nothing is written: the room keeps its bytes
pub over_none : (room : List ℕ) → overwrite [] room ≡ room
unfolding overwrite
over_none room = refl

pub over-length : (bytes room : List ℕ) → length bytes ≤ length room → length (overwrite bytes room) ≡ length room
unfolding overwrite
over-length bytes room h = simp (length-append, length-drop) (omega arith)

-- the bytes that were written, and those after them, which stood there
pub over-take : (a room : List ℕ) → take (length a) (overwrite a room) ≡ a
unfolding overwrite
over-take a room = take-append_seam a (drop (length a) room)

pub over-drop : (a room : List ℕ) → drop (length a) (overwrite a room) ≡ drop (length a) room
unfolding overwrite
over-drop a room = drop-append_seam a (drop (length a) room)

-- a second reply in the part that begins after the first: both joined in order
pub over_more : (a b room : List ℕ) →
    take (length a) (overwrite a room) ++ overwrite b (drop (length a) (overwrite a room)) ≡ overwrite (a ++ b) room
unfolding overwrite
over_more a b room =
    let rest = drop (length a) room in
    rw (take-append_seam a rest, drop-append_seam a rest, drop-drop, length-append, append_assoc)

-- what is written fits, and its length is what is reported
pub sent_bytes-length : (bytes : List ℕ) (room : ℕ) → length (sent_bytes bytes room) ≤ room
unfolding sent_bytes fits_in
sent_bytes-length bytes room =
    split (leb (length bytes) room) (λ e. rw e (leb-true (length bytes) room e)) (λ e. rw e (omega arith))

pub sent-written : (bytes : List ℕ) (room : ℕ) → IfSome (sent_by bytes room) (λ n. n ≡ length (sent_bytes bytes room))
unfolding sent_bytes
sent-written bytes room = split (fits_in bytes room) (λ e. rw e refl) (λ e. rw e tt)

pub word-length : (x : ℕ) → length (little_endian x) ≡ 4
unfolding low_first little_endian
word-length x = refl

-- four bytes a point
pub point_bytes-length : (form : Form) (trace : List ℕ) (place count : ℕ) →
    length (point_bytes form trace place count) ≡ 4 * count
unfolding point_bytes
point_bytes-length form trace place zero = refl
point_bytes-length form trace place (suc count) =
    let e : length (point_bytes form trace (suc place) count) ≡ 4 * count =
    point_bytes-length form trace (suc place) count in
    rw (length-append, word-length, e) (omega arith)
