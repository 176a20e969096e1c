-- A trigger and a tick, on the state and on the traces: §7.3, §7.6, §7.7 and §7.8.
use Rattle.std.specs.Prelude.{ℕ, cond, List, set}
use Rattle.storage.specs.Storage.{triggered_of, ticked_of}
use Rattle.storage.specs.declared.StorageStep.{StorageStep}
use Rattle.status.specs.Status.{with_lia}
use Rattle.state.specs.State.{with_registers, with_storage_of, sampling_of}
use Rattle.state.specs.declared.State.{State}

-- §7.6 and §9.5: what a trigger does to storage, by the event and by TRIG
unfoldable pub trigger_of : State → StorageStep
trigger_of s = triggered_of s.acquisition.storage s.installation.capacity (sampling_of s.settings)

-- §7.7 and §9.5: what a tick does to storage
unfoldable pub tick_of : State → StorageStep
tick_of s = ticked_of s.acquisition.storage s.installation.capacity (sampling_of s.settings)

-- §7.6, §7.7 and §7.8: the state after a trigger, TRIG or a tick: storage, and the LIA bits that it sets
unfoldable pub sampled_by : StorageStep → State → State
sampled_by p s = with_registers (with_lia s.registers p.bits) (with_storage_of p s)

-- §7.3, §7.6 and §7.7: a trace after a trigger or a tick, where the latest pair has the word w for it: the word is in
-- the next slot if the pair is stored; the state is the one before
unfoldable pub stored_in : StorageStep → State → ℕ → List ℕ → List ℕ
stored_in p s w trace = cond p.stores (set trace s.acquisition.storage.next w) trace
