-- The valid states (§12.11): each part in its ranges, on its steps and within its limits, serial number and port too.
use Rattle.std.specs.Prelude.{ℕ, Bool, ◌&&◌, leb}
use Rattle.queue.specs.Queue.{gpib}
use Rattle.settings.specs.Limits.{capacity_fits}
use Rattle.settings.specs.Table.{send, value_of}
use Rattle.settings.specs.Valid.{valid_settings}
use Rattle.storage.specs.Storage as storage
use Rattle.status.specs.Status as status
use Rattle.point.specs.Point.{is_legal}
use Rattle.state.specs.declared.Installation.{Installation}
use Rattle.state.specs.declared.Pair.{Pair}
use Rattle.state.specs.declared.State.{State}

-- §1.2: the highest serial number
abbrev pub serial_most : ℕ
serial_most = 99999

-- §1.2 and §12.11: serial number, port and capacity are ones of a start; the ports are RS232 and GPIB, as numbers
unfoldable pub installation_valid : Installation → Bool
installation_valid u = leb u.serial serial_most && (leb u.port gpib && capacity_fits u.capacity)

-- §9.1 and §12.11: the latest pair, and every pair that an event may make the latest one: two legal points
unfoldable pub latest_valid : Pair → Bool
latest_valid p = is_legal p.one && is_legal p.two

-- §12.11: settings with the external frequency and the frequency range, storage with its capacity, registers with their
-- enables
unfoldable pub parts_valid : State → Bool
parts_valid s =
    valid_settings s.settings s.acquisition.external s.acquisition.range
    && (storage.is_valid s.acquisition.storage s.installation.capacity (value_of s.settings send)
    && status.is_valid s.registers s.enables)

-- §12.11: every part of the state
unfoldable pub valid_state : State → Bool
valid_state s = parts_valid s && (latest_valid s.latest && installation_valid s.installation)
