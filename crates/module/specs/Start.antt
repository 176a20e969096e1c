-- What a start asks for (§1.2), else refusal 10 or 9 (§1.3), and the module that it gives.
use Rattle.std.specs.Prelude.{ℕ, Bool, ◌&&◌, leb, eqb}
use Rattle.state.specs.State.{start_state}
use Rattle.state.specs.declared.Installation.{Installation}
use Rattle.state.specs.Valid.{serial_most}
use Rattle.settings.specs.Limits.{capacity_fits}
use Rattle.queue.specs.Queue.{gpib, empty_queue}
use Rattle.module.specs.declared.Module.{Module}

-- §1.2, §1.3 and §12.10: serial number and port, else refusal 10; the ports are RS232 and GPIB, as numbers
unfoldable pub installation_known : ℕ → ℕ → Bool
installation_known serial port = leb serial serial_most && leb port gpib

-- §1.2, §1.3 and §12.9: the lengths of both traces, which are equal and a capacity, else refusal 9
unfoldable pub traces_fit : ℕ → ℕ → Bool
traces_fit first second = eqb first second && capacity_fits first

-- §1.2: a module at its start; its queue is empty
unfoldable pub fresh_module : Installation → Module
fresh_module u = record { state = start_state u; queue = empty_queue }
