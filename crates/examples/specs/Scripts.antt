-- Two scripts that no check may say the same of: §13.4 and §13.7.
use Rattle.std.specs.Prelude.{true, ◌≡◌, []}
use Rattle.split.specs.Ascii.{bytes}
use Rattle.outcome.specs.declared.Refusal.TheVariants.{NoReset}
use Rattle.extreme_courses.specs.Model.{model_fits}
use Rattle.extreme_courses.specs.declared.Model.{Model}
use Rattle.script.specs.Check.{check_of}
use Rattle.verdict.specs.Verdict.{passes, objected_at}

-- §13.4 and §13.7: what the check says of the two
pub record Scripts (model : Model) : Type 0 where
  -- §13.7: *RST by itself passes
  pub reset_alone : check_of model (bytes "*RST") ≡ passes
  -- §13.4: an empty script does not pass: 7 at line 1, place 1
  pub empty : check_of model [] ≡ objected_at 1 1 NoReset

-- §13.2: for every model that there can be: at every legal capacity
abbrev pub AtEveryCapacity : Type 0
AtEveryCapacity = (model : Model) → model_fits model ≡ true → Scripts model
