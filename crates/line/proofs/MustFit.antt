-- A line whose bytes show that it must find room is refused by 4 nowhere. Assumes nothing.
use Prim.Native.Nat.{ℕ, ◌+◌, ◌-◌, ◌*◌, ◌/◌, ◌≤◌, ◌<◌}
use mathlib.Core.Path.{◌≡◌, refl}
use mathlib.Core.Bool.{Bool, true, false, not, and-eq-true_iff}
use mathlib.Core.List.{List, [], ◌∷◌}
use native.Mathlib.Omega.{arith}
use borrow.Author.Tests.{le-leb, ne_eqb, ltb-true, not-true}
use lib.Dec.{ltb}
use lib.ListN.{length, length-append}
use Rattle.std.specs.Prelude.{Some, None, Ok, Err}
use Rattle.laws.proofs.Tests.{split, cond_by}
use Rattle.outcome.specs.Code.{code_of}
use Rattle.outcome.specs.Answer.{is_no_room, drops}
use Rattle.outcome.specs.declared.Refusal.{Refusal}
use Rattle.command.specs.Arguments.{question_mark, comma}
use Rattle.command.specs.Parsed.{Parsed, parsed_of}
use Rattle.command.specs.declared.Kind.{Kind}
use Rattle.command.specs.declared.Kind.TheVariants.{Set, Query, Act}
use Rattle.state.specs.State.{with_error_bit}
use Rattle.state.specs.declared.State.{State}
use Rattle.precondition.specs.Allowed.{is_allowed}
use Rattle.effect.specs.Effect.{state_after}
use Rattle.reply_buffer.specs.Buffer.{fits_in}
use Rattle.reply.specs.Reply.{reply_of}
use Rattle.line.specs.Perform.{Effect, done_by, performed, command_of}
use Rattle.line.specs.Line.{Line, waits, after_of, after_command, run_all, start_line}
use Rattle.line.specs.Parts.{texts_run, has, text_most, must_fit}
use Rattle.line.proofs.Bytes.{Every, Without, without_texts, texts_length}
use Rattle.line.proofs.Brief.{Parses, Silent, Brief, silent_parsed, brief_parsed}
use Rattle.line.proofs.Sized.{Sized, marked_sized, after_sized, reply-short}

-- the most bytes that the commands of these texts reply, where each replies `most` at most
abbrev all_most : ℕ → List (List ℕ) → ℕ
all_most most [] = 0
all_most most (text ∷ more) = most + all_most most more

-- states of which Fit holds, also after each command of a kind of which Such holds, which replies `most` bytes at most
module _ (Fit : State → Type 0) (Such : Kind → Type 0) (most : ℕ)
    (marked : (r : Refusal) (s : State) → Fit s → Fit (with_error_bit r s))
    (changed : (kind : Kind) (s : State) → Such kind → Fit s → Fit (state_after kind s))
    (short : (kind : Kind) (s : State) (waiting : Bool) (one two : List ℕ) → Such kind → Fit s →
    length (reply_of kind s waiting one two) ≤ most)
  where
    -- a command that does not drop the rest
    record Passes (e : Effect) : Type 0 where
      keeps : drops e.report ≡ false
      small : length e.out ≤ most
      fit : Fit e.after

    -- with room for the most that it replies none does
    command-passes : (room : ℕ) (waiting : Bool) (p : Parsed) (s : State) (one two : List ℕ) → Parses Such p → Fit s →
        most ≤ room → Passes (command_of room waiting p s one two)
    unfolding command_of performed done_by fits_in drops is_no_room
    command-passes room waiting (Ok None) s one two k h l = record { keeps = refl; small = omega arith; fit = h }
    command-passes room waiting (Err r) s one two k h l =
        record { keeps = ne_eqb (code_of r).number 4 (λ e. omega arith); small = omega arith; fit = marked r s h }
    command-passes room waiting (Ok (Some c)) s one two k h l =
        let reply = short c.kind s waiting one two k h in
        rw (le-leb (length (reply_of c.kind s waiting one two)) room (omega arith))
        (cond_by Passes (is_allowed s.settings s.acquisition c.kind)
        (λ e. record { keeps = refl; small = reply; fit = changed c.kind s k h })
        (λ e. record { keeps = refl; small = omega arith; fit = marked _ s h }))

    -- a line after one more command, which has not dropped the rest
    record Goes (l n : Line) : Type 0 where
      keeps : n.report.dropped ≡ false
      small : length n.out ≤ length l.out + most
      fit : Fit n.after

    -- one more command
    step_goes : (room : ℕ) (text : List ℕ) (l : Line) → Parses Such (parsed_of text) → Fit l.after →
        length l.out + most ≤ room → Goes l (after_command room text l)
    unfolding after_command after_of
    step_goes room text l k h r =
        let out = l.out in
        let p =
        command-passes (room - length out) (waits out) (parsed_of text) l.after l.one l.two k h (omega arith) in
        record { keeps = p.keeps; small = rw length-append (omega (arith, p.small)); fit = p.fit }

    -- so a line with room for all of them comes to its end
    run-passes : (room : ℕ) (texts : List (List ℕ)) (l : Line) → Every (λ text. Parses Such (parsed_of text)) texts →
        Fit l.after → l.report.dropped ≡ false → length l.out + all_most most texts ≤ room →
        (run_all room texts l).report.dropped ≡ false
    unfolding run_all
    run-passes room [] l k h d r = d
    run-passes room (text ∷ more) l k h d r =
        let g = step_goes room text l k.0 h (omega arith) in
        let next = after_command room text l in
        cond_by (λ (n : Line). n.report.dropped ≡ false) next.report.dropped (λ e. g.keeps)
        (λ e. run-passes room more next k.1 g.fit g.keeps (omega (arith, g.small)))

-- ---- the two ways

-- what each text is read as, from the byte that none has
every-reads : (Such : Kind → Type 0) (b : ℕ) → ((text : List ℕ) → Without b text → Parses Such (parsed_of text)) →
    (texts : List (List ℕ)) → Every (Without b) texts → Every (λ text. Parses Such (parsed_of text)) texts
every-reads Such b f [] h = tt
every-reads Such b f (text ∷ more) h = (f text h.0, every-reads Such b f more h.1)

-- commands that reply nothing reply nothing together
none-most : (texts : List (List ℕ)) → all_most 0 texts ≡ 0
none-most [] = refl
none-most (text ∷ more) = omega (arith, none-most more)

-- commands that reply a text each
text-most : (texts : List (List ℕ)) → all_most text_most texts ≡ text_most * length texts
text-most [] = refl
text-most (text ∷ more) = omega (arith, text-most more)

-- a command that replies nothing
silent-short : (kind : Kind) (s : State) (waiting : Bool) (one two : List ℕ) → Silent kind → Unit {0} →
    length (reply_of kind s waiting one two) ≤ 0
unfolding reply_of
silent-short (Set a) s waiting one two k h = omega arith
silent-short (Query q) s waiting one two k h = absurd k
silent-short (Act a) s waiting one two k h = omega arith

module _ (line : List ℕ) (room : ℕ) (s : State) (one two : List ℕ) where
  -- without "?"
  asks_none : Without question_mark line → (run_all room (texts_run line) (start_line s one two)).report.dropped ≡ false
  asks_none h =
      run-passes (λ s. Unit {0}) Silent 0 (λ r s h. tt) (λ kind s k h. tt) silent-short room (texts_run line)
      (start_line s one two)
      (every-reads Silent question_mark silent_parsed (texts_run line) (without_texts question_mark (omega arith) line h))
      tt refl (omega (arith, none-most (texts_run line)))

  -- without ","
  reads_none : Sized s → Without comma line → length line < room / text_most →
      (run_all room (texts_run line) (start_line s one two)).report.dropped ≡ false
  reads_none k h l =
      run-passes Sized Brief text_most marked_sized after_sized reply-short room (texts_run line) (start_line s one two)
      (every-reads Brief comma brief_parsed (texts_run line) (without_texts comma (omega arith) line h))
      k refl (omega (arith, text-most (texts_run line), texts_length line))

  -- either way
  pub must_pass : Sized s → must_fit line room ≡ true →
      (run_all room (texts_run line) (start_line s one two)).report.dropped ≡ false
  unfolding must_fit
  must_pass k h =
      split (has question_mark line)
      (λ e. let both = (and-eq-true_iff (not (has comma line)) (ltb (length line) (room / text_most))).0 (rw e at h) in
      reads_none k (not-true (has comma line) both.0) (ltb-true (length line) (room / text_most) both.1))
      asks_none
