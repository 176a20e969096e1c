-- What is read off the number of a script: exactly what the check says of it (§14.4).
use Rattle.std.specs.Prelude.{ℕ, ◌<◌, ◌^◌, ◌≡◌, ◌↔◌, List, length}
use Rattle.outcome.specs.Code.{code_of}
use Rattle.outcome.specs.declared.Refusal.{Refusal}
use Rattle.extreme_courses.specs.Model.{model_of}
use Rattle.script.specs.Check.{check_of}
use Rattle.verdict.specs.Verdict.{passes, objected_at}
use Rattle.verdict.specs.PackedNumber.{packed_number, line_read, place_read, refusal_read}

-- §14.4: a line, a place and a refusal are what is read off a number
pub record ReadsAs (n line place : ℕ) (refusal : Refusal) : Type 0 where
  pub in_line : line_read n ≡ line
  pub at_place : place_read n ≡ place
  pub by_number : refusal_read n ≡ (code_of refusal).number

-- §14.4: the claim, of a capacity and a script
pub record Read (capacity : ℕ) (script : List ℕ) : Type 0 where
  -- §13.7: 0 is read exactly where nothing is refused, whatever the script's length
  pub yes : (packed_number (check_of (model_of capacity) script) ≡ 0) ↔ (check_of (model_of capacity) script ≡ passes)
  -- §13.8: of a script shorter than 2^40 bytes, a line, a place and a refusal are read exactly where the check names
  -- them
  pub no : length script < 2 ^ 40 → (line place : ℕ) (refusal : Refusal) →
      (check_of (model_of capacity) script ≡ objected_at line place refusal)
      ↔ ReadsAs (packed_number (check_of (model_of capacity) script)) line place refusal
