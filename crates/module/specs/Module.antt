-- A module: whether a call may be done (§1.4), and the status byte between lines (§10.7).
use Rattle.std.specs.Prelude.{ℕ, Bool, true, false, cond, ◌&&◌, eqb, Err}
use Rattle.outcome.specs.declared.Refusal.TheVariants.{BadTraces, BadState}
use Rattle.outcome.specs.Code.{Outcome, done}
use Rattle.state.specs.Valid.{valid_state}
use Rattle.state.specs.declared.State.{State}
use Rattle.status.specs.Status.{status_byte}
use Rattle.storage.specs.Storage.{at_rest}
use Rattle.queue.specs.Queue as queue
use Rattle.module.specs.declared.Module.{Module}

-- §12.11: a module that 11 does not refuse: the state is valid, and the queue is one that its port can have
unfoldable pub valid_module : Module → Bool
valid_module m = valid_state m.state && queue.is_valid m.queue m.state.installation.port

-- §1.4, §12.9 and §12.12: what every later call tests first: 11, then 9: both traces as long as the capacity
unfoldable pub guard_of : Module → ℕ → ℕ → Outcome
guard_of m first second =
    cond (valid_module m)
    (cond (eqb first m.state.installation.capacity && eqb second m.state.installation.capacity) done
    (Err BadTraces))
    (Err BadState)

-- §10.5 and §10.7: the status byte between lines: bit 1 is set, since no command runs, and bit 4 is clear
unfoldable pub status_between : State → ℕ
status_between s =
    status_byte s.registers s.enables
    (record { at_rest = at_rest s.acquisition.storage; idle = true; waiting = false })
