-- The start: §1.2 and §1.3; its refusals: §12.9, §12.10 and §12.12.
use Rattle.std.specs.Prelude.{ℕ, cond, Err}
use Rattle.outcome.specs.declared.Refusal.{Refusal}
use Rattle.outcome.specs.declared.Refusal.TheVariants.{BadTraces, BadStart}
use Rattle.outcome.specs.Code.{done}
use Rattle.state.specs.State.{installation_of}
use Rattle.settings.specs.Limits.{capacity_least}
use Rattle.queue.specs.Queue.{gpib}
use Rattle.module.specs.Start.{installation_known, traces_fit, fresh_module}
use Rattle.lockin.specs.declared.StartResult.{StartResult}

-- §1.3: a refused start gives the module with serial number 0, on GPIB, of the least capacity
abbrev pub refused_start : Refusal → StartResult
refused_start r =
    record { after = fresh_module (installation_of 0 gpib capacity_least); outcome = Err r }

-- §1.2: a fresh module over two traces of these lengths, which are not written; §1.3, §12.10 and §12.12: 10 is asked
-- before 9 (§12.9)
unfoldable pub start_call : ℕ → ℕ → ℕ → ℕ → StartResult
start_call serial port first second =
    cond (installation_known serial port)
    (cond (traces_fit first second)
    (record { after = fresh_module (installation_of serial port first); outcome = done })
    (refused_start BadTraces))
    (refused_start BadStart)
