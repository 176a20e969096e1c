-- The state at start (§1.2) and after *RST (§11.2), its parts replaced one at a time, and what a change of the
-- detection frequency (§6.5, §6.7, §6.8) or a refusal does to it.
use Rattle.std.specs.Prelude.{ℕ}
use Rattle.settings.specs.Table.{oflt, srat, send, tstr, start_settings, value_of, with_value}
use Rattle.settings.specs.Frequency.{detection_of, range_at, range_effect_of, external_start, range_start}
use Rattle.settings.specs.declared.Settings.{Settings}
use Rattle.settings.specs.declared.FrequencyRange.{FrequencyRange}
use Rattle.storage.specs.Storage.{emptied_storage}
use Rattle.storage.specs.declared.Storage.{Storage}
use Rattle.storage.specs.declared.Sampling.{Sampling}
use Rattle.storage.specs.declared.StorageStep.{StorageStep}
use Rattle.status.specs.Status.{start_registers, start_enables, with_lia, with_standard}
use Rattle.outcome.specs.Code.{code_of}
use Rattle.outcome.specs.declared.Refusal.{Refusal}
use Rattle.status.specs.declared.Registers.{Registers}
use Rattle.status.specs.declared.Enables.{Enables}
use Rattle.state.specs.declared.Installation.{Installation}
use Rattle.state.specs.declared.Pair.{Pair}
use Rattle.state.specs.declared.Acquisition.{Acquisition}
use Rattle.state.specs.declared.State.{State}

-- ---- the constructors: no other definition lists the fields of a state or of a part

-- §1.2: what is fixed at start: serial number, port and capacity
abbrev pub installation_of : ℕ → ℕ → ℕ → Installation
installation_of serial port capacity = record { serial = serial; port = port; capacity = capacity }

-- §9.1: a point for each trace
abbrev pub pair_of : ℕ → ℕ → Pair
pair_of w v = record { one = w; two = v }

-- §1.2, §6.1, §6.5 and §11.2: at start and after *RST: the external frequency is 1000 Hz, storage is empty, and the
-- frequency range is upper
abbrev pub start_acquisition : Acquisition
start_acquisition = record { external = external_start; storage = emptied_storage; range = range_start }

-- §1.2: a fresh state: every setting at its start, PON set (§10.1), every enable 0 (§10.3), the latest pair two words 0
unfoldable pub start_state : Installation → State
start_state u =
    record {
      settings = start_settings;
      acquisition = start_acquisition;
      registers = start_registers;
      enables = start_enables;
      latest = pair_of 0 0;
      installation = u;
    }

-- ---- one part replaced, the others as they were

-- §6.1: the acquisition at another external frequency
abbrev pub at_frequency : ℕ → Acquisition → Acquisition
at_frequency f m = record { external = f; storage = m.storage; range = m.range }

-- the acquisition with another storage
abbrev pub with_storage : Storage → Acquisition → Acquisition
with_storage t m = record { external = m.external; storage = t; range = m.range }

-- §6.5: the acquisition with another frequency range
abbrev pub with_range : FrequencyRange → Acquisition → Acquisition
with_range r m = record { external = m.external; storage = m.storage; range = r }

-- §1.2: all parts given but for what is fixed at start, which stays
abbrev pub with_parts : Settings → Acquisition → Registers → Enables → Pair → State → State
with_parts x m r e l s =
    record { settings = x; acquisition = m; registers = r; enables = e; latest = l; installation = s.installation }

-- a state with other settings
abbrev pub with_settings : Settings → State → State
with_settings x s = with_parts x s.acquisition s.registers s.enables s.latest s

-- a state with another acquisition
abbrev pub with_acquisition : Acquisition → State → State
with_acquisition m s = with_parts s.settings m s.registers s.enables s.latest s

-- a state with other registers
abbrev pub with_registers : Registers → State → State
with_registers r s = with_parts s.settings s.acquisition r s.enables s.latest s

-- a state with other enables
abbrev pub with_enables : Enables → State → State
with_enables e s = with_parts s.settings s.acquisition s.registers e s.latest s

-- §9.1: a state with another latest pair (a term of document 01): the points that the next trigger or tick stores
abbrev pub with_latest : Pair → State → State
with_latest l s = with_parts s.settings s.acquisition s.registers s.enables l s

-- a state with the storage that a step leaves
abbrev pub with_storage_of : StorageStep → State → State
with_storage_of p s = with_acquisition (with_storage p.storage s.acquisition) s

-- ---- the detection frequency

-- §6.2: the detection frequency of a state
abbrev pub detection_now : State → ℕ
detection_now s = detection_of s.settings s.acquisition.external

-- §6.5: the acquisition, under the settings x, once the detection frequency may have changed: in the range at that
-- frequency
unfoldable pub range_settled : Settings → Acquisition → Acquisition
range_settled x m = with_range (range_at (detection_of x m.external) m.range) m

-- §6.5, §6.7 and §6.8: the state once the detection frequency may have changed: the range follows it, acts on the time
-- constant and sets its LIA bits
unfoldable pub settled : State → State
settled s =
    let m = range_settled s.settings s.acquisition in
    let effect = range_effect_of s.acquisition.range m.range (value_of s.settings oflt) in
    with_settings (with_value s.settings oflt effect.constant)
    (with_acquisition m (with_registers (with_lia s.registers effect.bits) s))

-- ---- refusals and storing

-- §12.1, §12.2, §12.3, §12.4 and §12.5: what a refusal changes in the state: its standard event bits are set, and
-- nothing else changes
unfoldable pub with_error_bit : Refusal → State → State
with_error_bit refusal s = with_registers (with_standard s.registers (code_of refusal).bits) s

-- §7.4 and §7.6: the settings that storing goes by: SRAT, SEND and TSTR
unfoldable pub sampling_of : Settings → Sampling
sampling_of s = record { rate = value_of s srat; end = value_of s send; start = value_of s tstr }
