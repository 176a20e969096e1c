-- What the check is told of the modules that may run a script: §13.2 and §13.6.
use Rattle.std.specs.Prelude.{ℕ, Bool, ◌≡◌}
use Rattle.settings.specs.Limits.{capacity_fits}
use Rattle.state.specs.declared.Installation.{Installation}
use Rattle.extreme_courses.specs.declared.Model.{Model}

-- §13.6: the modules whose traces have a capacity
abbrev pub model_of : ℕ → Model
model_of capacity = record { capacity = capacity }

-- §13.2: a module can be of the model: traces can have the capacity, else refusal 9
abbrev pub model_fits : Model → Bool
model_fits model = capacity_fits model.capacity

-- §13.6: a module with this installation is of the model: it has the capacity told
pub record OfModel (model : Model) (installation : Installation) : Type 0 where
  pub capacity : installation.capacity ≡ model.capacity
