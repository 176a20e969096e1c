-- What is kept of what was read, piece by piece. Assumes nothing.
use mathlib.Core.Path.{◌≡◌, sym, ap, ◌∙◌}
use mathlib.Core.List.{List, [], ◌++◌}
use Prim.Native.Nat.{ℕ}
use Rattle.check_input.specs.Bytes.{Memory, memory, after_bytes}
use Rattle.check_input.specs.declared.bytes.Input.{Input}
use Rattle.check_input.specs.Whole.{Reads}
use Rattle.check_input.proofs.Whole.{whole}

-- nothing read yet
pub none_read : {i j : Input} {script : List ℕ} → i ≡ j → Reads (memory j script) (memory i script)
unfolding after_bytes
none_read e = record { bytes = []; stored = rw e }

-- one piece behind others
pub read_on : {a b c : Memory} → Reads a b → Reads b c → Reads a c
read_on {a = a} r s =
    record {
      bytes = r.bytes ++ s.bytes;
      stored = s.stored ∙ ap (after_bytes s.bytes) r.stored ∙ sym (whole.pieces r.bytes s.bytes a);
    }
