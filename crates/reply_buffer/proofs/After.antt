-- A step that writes nothing leaves the traces and the reply room as they were. Assumes nothing.
use Prim.Native.Nat.{ℕ}
use mathlib.Core.Path.{refl, sym}
use mathlib.Core.List.{List}
use Rattle.reply_buffer.specs.After.{After, silent, Meets}
use Rattle.reply_buffer.proofs.Over.{over_none}

pub silent-meets : {S R G : Type 0} (shows : After S R → G) (report : R) (s : S) (one two room : List ℕ) →
    Meets shows (silent report s one two) (shows (silent report s one two)) one two room room
silent-meets shows report s one two room =
    record { result = refl; first = refl; second = refl; reply = sym (over_none room) }
