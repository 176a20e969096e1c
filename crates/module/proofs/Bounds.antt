-- How far a known port and a capacity go. Assumes nothing.
use Prim.Native.Nat.{ℕ, ◌%◌}
use mathlib.Core.Bool.{true}
use mathlib.Core.Path.{◌≡◌}
use native.Mathlib.Omega.{arith}
use native.Mathlib.Nat.{mod-eq_of_lt}
use lib.Dec.{leb, eqb}
use borrow.Author.Tests.{leb-true}
use Rattle.laws.proofs.Tests.{and_second}
use Rattle.module.specs.Start.{installation_known, traces_fit}

-- a known port and a capacity are small
pub port_small : (serial port : ℕ) → installation_known serial port ≡ true → port % 256 ≡ port
unfolding installation_known
port_small serial port e =
    let l = leb-true port 1 (and_second (leb serial 99999) (leb port 1) e) in
    mod-eq_of_lt (omega arith)

pub capacity_small : (first second : ℕ) → traces_fit first second ≡ true → first % 65536 ≡ first
unfolding traces_fit
capacity_small first second e =
    let l = leb-true first 16383 (and_second (leb 1 first) (leb first 16383) (and_second (eqb first second) _ e)) in
    mod-eq_of_lt (omega arith)
