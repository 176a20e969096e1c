-- The parts of the state after a command that is not refused are those that the check follows, but for the frequency
-- range's effect on the time constant, and no command changes what is fixed at start. Assumes nothing.
use mathlib.Core.Path.{◌≡◌, refl}
use Rattle.mnemonic.specs.declared.Action.{Action}
use Rattle.mnemonic.specs.declared.Action.TheVariants.{Reset, Clear, Start, Pause, Empty, Trigger}
use Rattle.command.specs.declared.Kind.{Kind}
use Rattle.command.specs.declared.Kind.TheVariants.{Set, Query, Act}
use Rattle.state.specs.State.{settled}
use Rattle.state.specs.Storing.{sampled_by}
use Rattle.state.specs.declared.State.{State}
use Rattle.effect.specs.Effect.{restored_by, settings_after, storage_by, storage_after}
use Rattle.effect.specs.Effect.{restarted_by, acquisition_by, acquisition_after, state_after}

-- an action's parts
record ActParts (a : Action) (s : State) : Type 0 where
  settings : (state_after (Act a) s).settings ≡ settings_after (Act a) s.settings
  acquisition : (state_after (Act a) s).acquisition
      ≡ acquisition_after (Act a) (settings_after (Act a) s.settings) s.acquisition s.installation.capacity
  installation : (state_after (Act a) s).installation ≡ s.installation

act_parts : (a : Action) (s : State) → ActParts a s
unfolding state_after sampled_by settings_after restored_by storage_after storage_by acquisition_after acquisition_by
    restarted_by
act_parts Reset s = record { settings = refl; acquisition = refl; installation = refl }
act_parts Clear s = record { settings = refl; acquisition = refl; installation = refl }
act_parts Start s = record { settings = refl; acquisition = refl; installation = refl }
act_parts Pause s = record { settings = refl; acquisition = refl; installation = refl }
act_parts Empty s = record { settings = refl; acquisition = refl; installation = refl }
act_parts Trigger s = record { settings = refl; acquisition = refl; installation = refl }

pub act_settings : (a : Action) (s : State) → (state_after (Act a) s).settings ≡ settings_after (Act a) s.settings
act_settings a s = (act_parts a s).settings

pub after-acquisition : (kind : Kind) (s : State) →
    (state_after kind s).acquisition
    ≡ acquisition_after kind (settings_after kind s.settings) s.acquisition s.installation.capacity
after-acquisition (Set a) s = unfold state_after settled settings_after acquisition_after in refl
after-acquisition (Query q) s = unfold state_after settings_after acquisition_after in refl
after-acquisition (Act a) s = (act_parts a s).acquisition

pub after-installation : (kind : Kind) (s : State) → (state_after kind s).installation ≡ s.installation
after-installation (Set a) s = unfold state_after settled in refl
after-installation (Query q) s = unfold state_after in refl
after-installation (Act a) s = (act_parts a s).installation
