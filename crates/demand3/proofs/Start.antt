-- The start of a course: its answer tells whether a capacity is legal, and what it makes is one that there can be.
use Prim.Native.Nat.{ℕ, zero, suc, ◌^◌, ◌<◌}
use native.Mathlib.Omega.{arith}
use mathlib.Core.Bool.{Bool, true, false, cond, and-eq-true_iff}
use mathlib.Core.Path.{◌≡◌, refl, sym, ◌∙◌}
use mathlib.Core.List.{List, [], ◌∷◌}
use lib.Dec.{leb, ltb}
use lib.ListN.{replicate}
use borrow.Author.Tests.{eq-eqb, leb-true, ltb-true}
use Rattle.std.specs.Prelude.{Err}
use Rattle.outcome.specs.declared.Refusal.TheVariants.{BadTraces}
use Rattle.outcome.specs.Code.{done}
use Rattle.settings.specs.Table.{table, start_settings}
use Rattle.state.specs.State.{start_state}
use Rattle.state.specs.declared.Installation.{Installation as ModuleUnit}
use Rattle.module.specs.Start.{installation_known, traces_fit, fresh_module}
use Rattle.lockin.specs.Start.{start_call}
use Rattle.extreme_courses.specs.Model.{model_fits}
use Rattle.extreme_courses.specs.declared.Model.{Model}
use Rattle.invariant.specs.Representable.{Every, Word, Byte, ModuleFits}
use Rattle.laws.proofs.Lists.{all}
use Rattle.demand3.specs.Course.{WorldFits, StartAnswers, Startable, fresh_world}
use Rattle.demand3.proofs.FirstRefusal.{not_done}
use Rattle.settings.specs.Limits.{capacity_least, capacity_most}
use Rattle.queue.specs.Queue.{line_limit}

-- ---- the start's answer

module _ (model : Model) where
  -- the one answer that a model has, legal or not
  answer_is : (t : Bool) → model_fits model ≡ t → StartAnswers model (cond t done (Err BadTraces))
  unfolding start_call traces_fit
  answer_is true e serial port k = rw (k, eq-eqb model.capacity model.capacity refl, e) refl
  answer_is false e serial port k = rw (k, eq-eqb model.capacity model.capacity refl, e) refl

  pub fits-start : model_fits model ≡ true → Startable model
  fits-start e = answer_is true e

  pub unfit_start : model_fits model ≡ false → StartAnswers model (Err BadTraces)
  unfit_start e = answer_is false e

  -- serial number 0 and GPIB are taken
  known : installation_known 0 1 ≡ true
  unfolding installation_known
  known = refl

  -- so the answer tells which it is
  answers-apart : Startable model → StartAnswers model (Err BadTraces) → ⊥
  answers-apart s u = not_done BadTraces (sym (u 0 1 known) ∙ s 0 1 known)

  pub start_fits : Startable model → model_fits model ≡ true
  start_fits s = by (model_fits model) refl where
    by : (t : Bool) → model_fits model ≡ t → t ≡ true
    by true e = refl
    by false e = absurd (answers-apart s (unfit_start e))

  pub start_unfit : StartAnswers model (Err BadTraces) → model_fits model ≡ false
  start_unfit u = by (model_fits model) refl where
    by : (t : Bool) → model_fits model ≡ t → t ≡ false
    by true e = absurd (answers-apart (fits-start e) u)
    by false e = refl

-- ---- what is started

abbrev fresh_installation : Model → ModuleUnit
fresh_installation model = record { serial = 0; port = 1; capacity = model.capacity }

every-below : (n : ℕ) (xs : List ℕ) → all (λ x. ltb x n) xs ≡ true → Every (λ x. x < n) xs
every-below n [] e = tt
every-below n (x ∷ xs) e =
    let p = (and-eq-true_iff (ltb x n) (all (λ x. ltb x n) xs)).0 e in
    (ltb-true x n p.0, every-below n xs p.1)

every-replicate : (Such : ℕ → Type 0) (x : ℕ) → Such x → (n : ℕ) → Every Such (replicate n x)
every-replicate Such x k zero = tt
every-replicate Such x k (suc n) = (k, every-replicate Such x k n)

start-values : Every Word start_settings.values
unfolding start_settings table
start-values = every-below (2 ^ 32) start_settings.values refl

module _ (model : Model) (fits : model_fits model ≡ true) where
  pub fresh-core : (fresh_world model).core ≡ fresh_module (fresh_installation model)
  unfolding fresh_world start_call traces_fit installation_known
  fresh-core = rw (eq-eqb model.capacity model.capacity refl, fits) refl

  small : model.capacity < 2 ^ 32
  small = omega (
    arith,
    leb-true model.capacity capacity_most
        ((and-eq-true_iff (leb capacity_least model.capacity) (leb model.capacity capacity_most)).0 fits).1,
  )

  module_fits : ModuleFits (fresh_module (fresh_installation model))
  unfolding fresh_module start_state start_settings table
  module_fits =
      record {
        state =
            record {
              full = refl;
              values = start-values;
              external = omega arith;
              held = omega arith;
              next = omega arith;
              registers = record { standard = omega arith; lia = omega arith; errors = omega arith };
              enables =
                  record { standard = omega arith; service = omega arith; lia = omega arith; errors = omega arith };
              latest = (omega arith, omega arith);
              installation = (omega arith, omega arith, small);
            };
        queue = record { full = refl; bytes = every-replicate Byte 0 (omega arith) line_limit; len = omega arith };
      }

  pub fresh-fits : WorldFits (fresh_world model)
  unfolding fresh_world
  fresh-fits =
      record {
        core = rw fresh-core module_fits;
        one = every-replicate Word 0 (omega arith) model.capacity;
        two = every-replicate Word 0 (omega arith) model.capacity;
      }
