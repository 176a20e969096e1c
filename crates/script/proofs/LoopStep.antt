-- A turn of the loop over a line's commands. Assumes nothing.
use Prim.Native.Nat.{ℕ, ◌+◌, ◌≤◌}
use mathlib.Core.Path.{◌≡◌, refl, ap, ◌∙◌}
use mathlib.Core.List.{List, [], ◌∷◌}
use native.Mathlib.Omega.{arith}
use lib.ListN.{length}
use Rattle.std.proofs.Common.{Ok, Err}
use Rattle.outcome.specs.declared.Refusal.{Refusal}
use Rattle.outcome.specs.Code.{done}
use Rattle.command.specs.Parsed.{parsed_of, Parsed}
use Rattle.extreme_courses.specs.Extremes.{text_refusal, text_after}
use Rattle.extreme_courses.specs.declared.Model.{Model}
use Rattle.extreme_courses.specs.declared.Extremes.{Extremes}
use Rattle.script.specs.Check.{answer_at, texts_answer, texts_after}
use Rattle.script.specs.Parts.{checked}

-- what is left of the line answers from here what the whole answers from the start
pub record OnWay (model : Model) (texts : List (List ℕ)) (b₀ b : Extremes) (place : ℕ) (left : List (List ℕ))
    : Type 0 where
  pub report : texts_answer model 1 texts b₀ ≡ texts_answer model place left b
  pub past : texts_after model texts b₀ ≡ texts_after model left b
  pub counted : place + length left ≤ length texts + 1

pub at_start : (model : Model) (texts left : List (List ℕ)) (b : Extremes) → left ≡ texts → OnWay model texts b b 1 left
at_start model texts left b e = rw e (record { report = refl; past = refl; counted = omega arith })

module _ {model : Model} {texts : List (List ℕ)} {b₀ b : Extremes} {place : ℕ} {left : List (List ℕ)}
    (v : OnWay model texts b₀ b place left) where
  -- none is left
  pub ended : left ≡ [] → Ok b ≡ checked (texts_answer model 1 texts b₀) (texts_after model texts b₀)
  unfolding checked texts_answer texts_after
  ended e = rw (v.report, v.past, e)

  module _ (text : List ℕ) (rest : List (List ℕ)) (more : left ≡ text ∷ rest) (p : Parsed)
      (read : p ≡ parsed_of text) where
    answered : texts_answer model 1 texts b₀
        ≡ answer_at (text_refusal p b) place (texts_answer model (place + 1) rest (text_after model p b))
    unfolding texts_answer
    answered = v.report ∙ ap (λ ts. texts_answer model place ts b) more ∙ rw read

    went : texts_after model texts b₀ ≡ texts_after model rest (text_after model p b)
    unfolding texts_after
    went = v.past ∙ ap (λ ts. texts_after model ts b) more ∙ rw read

    -- a command is refused
    pub refused : (r : Refusal) → text_refusal p b ≡ Err r →
        Err (record { refusal = r; place = place }) ≡ checked (texts_answer model 1 texts b₀) (texts_after model texts b₀)
    unfolding checked answer_at
    refused r f = rw (answered, f)

    -- none is
    pub again : text_refusal p b ≡ done → OnWay model texts b₀ (text_after model p b) (place + 1) rest
    unfolding answer_at
    again f =
        let c = v.counted in
        let n = ap length more in
        record { report = answered ∙ rw f; past = went; counted = omega arith }
