-- `lockin::byte_run::take_quiet` meets its contract: the rest of the run goes on from each byte as from the first.
-- Assumes nothing.
use Prim.Native.Nat.{ℕ, ◌+◌, ◌≤◌}
use mathlib.Core.Path.{◌≡◌}
use lib.ListN.{drop}
use Rattle.lockin.specs.Run.{Run, run_from}
use Rattle.lockin.specs.Parts.{with_quiet}
use Rattle.lockin.proofs.byte_run.take_quiet.Given as goal

abbrev pub invariant-loop-b : goal.invariant-loop-b
invariant-loop-b l = ((room : ℕ) (p : Run) → p.after.state.installation.port ≡ l.port →
    run_from room l.mark (drop l.initial.q.taken l.run) (with_quiet l.initial.bytes l.initial.q p)
    ≡ run_from room l.mark (drop l.q.taken l.run) (with_quiet l.bytes l.q p))
    × (l.q.taken ≡ l.initial.q.taken + l.b-index) × (l.q.ended ≤ l.q.taken)
