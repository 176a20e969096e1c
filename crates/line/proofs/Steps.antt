-- A command of a line, lent the reply room from the bytes already written onward. Assumes nothing.
use Prim.Native.Nat.{ℕ, ◌-◌, ◌≤◌}
use mathlib.Core.Path.{◌≡◌, refl, sym, ap, ◌∙◌}
use mathlib.Core.List.{List, [], ◌++◌, append-nil}
use native.Mathlib.Omega.{arith}
use lib.Dec.{ltb}
use lib.ListN.{length, take, drop, length-append, length-drop, drop_of_length-le, take-append-drop}
use lib.Seq.{take_all, length-take-le}
use Rattle.command.specs.Parsed.{parsed_of}
use Rattle.reply_buffer.specs.Buffer.{overwrite}
use Rattle.reply_buffer.specs.After.{Meets}
use Rattle.reply_buffer.proofs.Over.{over_none, over_more, over-take, over-drop}
use Rattle.line.specs.declared.Progress.{Progress}
use Rattle.line.specs.Perform.{Effect, nothing, command_of}
use Rattle.line.specs.Line.{after_of, after_command}
use Rattle.line.specs.Parts.{progress_after, progress_of, line_reached}

-- the part of a room from a place on, and the room once that part came back as new
abbrev pub part : List ℕ → ℕ → List ℕ
part reply at = take (length reply - at) (drop at reply)

abbrev pub mended : List ℕ → ℕ → List ℕ → List ℕ
mended reply at new = take at reply ++ (new ++ drop (length reply - at) (drop at reply))

module _ (reply : List ℕ) (at : ℕ) (h : at ≤ length reply) where
  pub part_whole : part reply at ≡ drop at reply
  part_whole = take_all (length reply - at) (drop at reply) (simp length-drop (omega arith))

  pub part_room : length (part reply at) ≡ length reply - at
  part_room = ap length part_whole ∙ length-drop at reply

  pub mended_over : (out new : List ℕ) → new ≡ overwrite out (part reply at) →
      mended reply at new ≡ overwrite (take at reply ++ out) reply
  mended_over out new e =
      let n : drop (length reply - at) (drop at reply) ≡ [] =
      drop_of_length-le (drop at reply) {i = length reply - at} (simp length-drop (omega arith)) in
      let k : length (take at reply) ≡ at = length-take-le at reply h in
      ap (λ l. take at reply ++ (new ++ l)) n
      ∙ ap (λ l. take at reply ++ l) (append-nil new ∙ e ∙ ap (overwrite out) (part_whole ∙ ap (λ i. drop i reply) (sym k)))
      ∙ rw (over-take (take at reply) reply, over-drop (take at reply) reply) at (over_more (take at reply) out reply)

  pub mended-length : (new : List ℕ) → length new ≡ length (part reply at) →
      length (mended reply at new) ≡ length reply
  mended-length new e =
      simp (length-append, length-drop, length-take-le at reply h)
      (omega (arith, part_room, length-take-le at reply h))

  -- the part as it was makes the room as it was
  pub mended_same : mended reply at (part reply at) ≡ reply
  mended_same =
      ap (λ l. take at reply ++ l) (take-append-drop (length reply - at) (drop at reply)) ∙ take-append-drop at reply

-- one more command, done in the part of the room behind the bytes already written
pub step-holds : (p q : Progress) (text one two one' two' reply new : List ℕ) (e : Effect) → p.at ≤ length reply →
    e ≡ command_of (length reply - p.at) (ltb 0 p.at) (parsed_of text) p.state one two →
    one' ≡ e.one → two' ≡ e.two → new ≡ overwrite e.out (part reply p.at) → q ≡ progress_after p e →
    Meets progress_of (after_command (length reply) text (line_reached p one two reply)) q one' two' (mended reply p.at new) reply
unfolding after_command after_of
step-holds p q text one two one' two' reply new e h did first second out after =
    let k : length (take p.at reply) ≡ p.at = length-take-le p.at reply h in
    rw (k, ← did)
    (record {
      result = after ∙ rw (length-append, k);
      first = first;
      second = second;
      reply = mended_over reply p.at h e.out new out;
    })

-- one more command that is empty
pub empty-holds : (p q : Progress) (one two reply : List ℕ) → p.at ≤ length reply →
    ((one two : List ℕ) → q ≡ progress_after p (nothing p.state one two)) →
    Meets progress_of (after_command (length reply) [] (line_reached p one two reply)) q one two reply reply
unfolding command_of parsed_of
empty-holds p q one two reply h after =
    rw (mended_same reply p.at h) at
    (step-holds p q [] one two one two reply (part reply p.at) (nothing p.state one two) h refl refl refl
    (sym (over_none (part reply p.at))) (after one two))
