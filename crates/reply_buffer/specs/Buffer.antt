-- What is written of a reply: §1.1, §8.1, §8.2, §12.4 and §12.13.
use Rattle.std.specs.Prelude.{ℕ, zero, suc, ◌%◌, Bool, cond, List, [], ◌++◌, leb, length, drop, get_or}
use Rattle.point.specs.Point.{float_of}
use Rattle.point.specs.Bytes.{little_endian}
use Rattle.mnemonic.specs.declared.Form.{Form}
use Rattle.mnemonic.specs.declared.Form.TheVariants.{Words, Floats}

-- §12.13: a command's room (a term of document 01) begins after the bytes that the line has written; §1.1: after a
-- reply it has the reply's own bytes, then those that stood there
unfoldable pub overwrite : List ℕ → List ℕ → List ℕ
overwrite bytes room = bytes ++ drop (length bytes) room

-- §12.4: a reply that is longer than the room left does not fit; §12.13: an exact fit passes
unfoldable pub fits_in : List ℕ → ℕ → Bool
fits_in bytes room = leb (length bytes) room

-- §12.4: the bytes that are written: all, or none where they do not fit
unfoldable pub sent_bytes : List ℕ → ℕ → List ℕ
sent_bytes bytes room = cond (fits_in bytes room) bytes []

-- §7.3: the word of a trace at an index that is counted on past its last slot, behind which slot 0 comes again; 0 of an
-- empty trace
unfoldable pub word_at : List ℕ → ℕ → ℕ
word_at trace place = get_or trace (place % length trace) 0

-- §8.1: a point's word as it is sent: TRCL? sends it as it is; §8.2: TRCB? sends the float of the same value
unfoldable pub formed : Form → ℕ → ℕ
formed Words word = word
formed Floats word = float_of word

-- §8.1: points from an index on, four bytes each, low byte first; §8.3: and no end behind them
unfoldable pub point_bytes : Form → List ℕ → ℕ → ℕ → List ℕ
point_bytes form trace place zero = []
point_bytes form trace place (suc count) =
    little_endian (formed form (word_at trace place)) ++ point_bytes form trace (suc place) count
