-- What a command that is not refused changes: §1.1, §5.4, §6.5, §6.7, §6.8, §7.2, §7.6, §10.2, §10.3, §10.4 and §11.2.
use Rattle.std.specs.Prelude.{ℕ, Bool, true, false, cond}
use Rattle.settings.specs.Table.{start_settings, next_entry, with_value}
use Rattle.settings.specs.declared.Settings.{Settings}
use Rattle.storage.specs.Storage.{emptied_storage, started_of, paused_of, triggered_of}
use Rattle.storage.specs.declared.Storage.{Storage}
use Rattle.storage.specs.declared.Sampling.{Sampling}
use Rattle.storage.specs.declared.StorageStep.{StorageStep}
use Rattle.status.specs.Status.{cleared_of, bit_cleared, all_cleared, with_enable, with_enable_bit}
use Rattle.status.specs.declared.Registers.{Registers}
use Rattle.status.specs.declared.Enables.{Enables}
use Rattle.mnemonic.specs.declared.Action.{Action}
use Rattle.mnemonic.specs.declared.Action.TheVariants.{Reset, Clear, Start, Pause, Empty, Trigger}
use Rattle.command.specs.declared.SetArgument.{SetArgument}
use Rattle.command.specs.declared.SetArgument.TheVariants as set
use Rattle.command.specs.declared.QueryArgument.{QueryArgument}
use Rattle.command.specs.declared.QueryArgument.TheVariants as query
use Rattle.command.specs.declared.Kind.{Kind}
use Rattle.command.specs.declared.Kind.TheVariants.{Set, Query, Act}
use Rattle.state.specs.State.{start_acquisition, with_storage, with_settings, with_acquisition, with_registers}
use Rattle.state.specs.State.{with_enables, with_storage_of, sampling_of, range_settled, settled}
use Rattle.state.specs.Storing.{sampled_by}
use Rattle.state.specs.declared.Acquisition.{Acquisition}
use Rattle.state.specs.declared.State.{State}

-- §11.2: whether an action is *RST
abbrev pub is_rst : Action → Bool
is_rst Reset = true
is_rst Clear = false
is_rst Start = false
is_rst Pause = false
is_rst Empty = false
is_rst Trigger = false

-- ---- the settings: a set keeps its value, *RST takes all to their start

-- §5.1: two values, the second at the entry after the first's, as DDEF and OEXP set them
unfoldable pub with_pair : Settings → ℕ → ℕ → ℕ → Settings
with_pair s entry v w = with_value (with_value s entry v) (next_entry entry) w

-- §5.4: the settings after a set: the values that it names are set, the others stay
unfoldable pub set_in : Settings → SetArgument → Settings
set_in s (set.Value entry v) = with_value s entry v
set_in s (set.Pair entry v w) = with_pair s entry v w
set_in s (set.Enable r v) = s
set_in s (set.EnableBit r i v) = s

-- §11.2: the settings after an action: *RST takes each to its start
unfoldable pub restored_by : Action → Settings → Settings
restored_by a s = cond (is_rst a) start_settings s

-- §1.1: the settings after a command, but for what the frequency range does to the time constant (§6.7)
unfoldable pub settings_after : Kind → Settings → Settings
settings_after (Set a) s = set_in s a
settings_after (Query q) s = s
settings_after (Act a) s = restored_by a s

-- ---- storage: STRT, PAUS and REST act on it alone, *RST empties it too, and TRIG is a trigger

-- storage with nothing stored and no bit set
abbrev pub unstored : Storage → StorageStep
unstored t = record { storage = t; stores = false; bits = 0 }

-- §7.2, §7.6 and §11.2: what an action does to storage
unfoldable pub storage_by : Action → Storage → ℕ → Sampling → StorageStep
storage_by Reset t capacity by = unstored emptied_storage
storage_by Clear t capacity by = unstored t
storage_by Start t capacity by = unstored (started_of t)
storage_by Pause t capacity by = unstored (paused_of t)
storage_by Empty t capacity by = unstored emptied_storage
storage_by Trigger t capacity by = triggered_of t capacity by

-- §1.1: what a command does to storage: sets and queries leave it as it is
unfoldable pub storage_after : Kind → Settings → Acquisition → ℕ → StorageStep
storage_after (Set a) s m capacity = unstored m.storage
storage_after (Query q) s m capacity = unstored m.storage
storage_after (Act a) s m capacity = storage_by a m.storage capacity (sampling_of s)

-- ---- the acquisition: a set may change the frequency range, *RST takes all to their start

-- §11.2: the acquisition after an action, but for what the action does to storage
unfoldable pub restarted_by : Action → Acquisition → Acquisition
restarted_by a m = cond (is_rst a) start_acquisition m

-- §7.2, §7.6 and §11.2: the acquisition after an action that leaves the settings x: with its storage
unfoldable pub acquisition_by : Action → Settings → Acquisition → ℕ → Acquisition
acquisition_by a x m capacity =
    with_storage (storage_by a m.storage capacity (sampling_of x)).storage (restarted_by a m)

-- §1.1: the acquisition after a command that leaves the settings x; §6.5: after a set in the range at its frequency
unfoldable pub acquisition_after : Kind → Settings → Acquisition → ℕ → Acquisition
acquisition_after (Set a) x m capacity = range_settled x m
acquisition_after (Query q) x m capacity = m
acquisition_after (Act a) x m capacity = acquisition_by a x m capacity

-- ---- the registers: the query of an event register clears it, or the one bit asked for

-- §10.2: the registers after a query; §10.6: *STB? clears none
unfoldable pub registers_asked : QueryArgument → Registers → Registers
registers_asked (query.Status which) r = cleared_of r which
registers_asked (query.StatusBit which i) r = bit_cleared r which i
registers_asked (query.Value entry) r = r
registers_asked (query.Pair entry) r = r
registers_asked (query.Enable which) r = r
registers_asked (query.EnableBit which i) r = r
registers_asked query.Identity r = r
registers_asked query.Points r = r
registers_asked (query.Trace form t bin count) r = r

-- ---- the enables, each set whole or bit by bit

-- §10.3: the enables after a set
unfoldable pub enables_set : SetArgument → Enables → Enables
enables_set (set.Enable which v) e = with_enable e which v
enables_set (set.EnableBit which i v) e = with_enable_bit e which i v
enables_set (set.Value entry v) e = e
enables_set (set.Pair entry v w) e = e

-- ---- the state: what no definition above changes stays

-- §5.4 and §10.3: the state after a set: the setting or the enable that it names; §6.5, §6.7 and §6.8: and what the
-- frequency range does
abbrev pub set_by : SetArgument → State → State
set_by a s = settled (with_settings (set_in s.settings a) (with_enables (enables_set a s.enables) s))

-- §10.2: the state after a query
abbrev pub queried_by : QueryArgument → State → State
queried_by q s = with_registers (registers_asked q s.registers) s

-- §11.2: the state after *RST, which does p to storage: settings, external frequency and frequency range start anew; no
-- LIA bit is set
abbrev pub reset_by : StorageStep → State → State
reset_by p s = with_storage_of p (with_settings start_settings (with_acquisition start_acquisition s))

-- §10.4: the state after *CLS, which does p to storage: all three registers are cleared
abbrev pub cleared_by : StorageStep → State → State
cleared_by p s = with_storage_of p (with_registers all_cleared s)

-- §7.2, §10.4 and §11.2: the state after an action that does p to storage; §7.6: after TRIG it is the trigger event's
abbrev pub acted_by : Action → StorageStep → State → State
acted_by Reset p s = reset_by p s
acted_by Clear p s = cleared_by p s
acted_by Start p s = with_storage_of p s
acted_by Pause p s = with_storage_of p s
acted_by Empty p s = with_storage_of p s
acted_by Trigger p s = sampled_by p s

-- §1.1: the state after a command that does p to storage
abbrev pub state_by : Kind → StorageStep → State → State
state_by (Set a) p s = set_by a s
state_by (Query q) p s = queried_by q s
state_by (Act a) p s = acted_by a p s

-- §1.1: the state after a command that is not refused
unfoldable pub state_after : Kind → State → State
state_after kind s = state_by kind (storage_after kind s.settings s.acquisition s.installation.capacity) s
