-- Lines of several commands. Assumes nothing.
use Prim.Native.Nat.{ℕ, ◌+◌, ◌-◌, ◌≤◌}
use native.Mathlib.Omega.{arith}
use mathlib.Core.Bool.{Bool, true, false, cond, false≢true}
use mathlib.Core.Path.{◌≡◌, refl, sym, ap, ◌∙◌}
use mathlib.Core.List.{List, [], ◌∷◌, ◌++◌}
use lib.Dec.{eqb}
use borrow.Author.Tests.{eq-eqb}
use lib.ListN.{length, length-append}
use Rattle.std.specs.Prelude.{Ok, Err}
use Rattle.split.specs.Divide.{on_head, parts}
use Rattle.line_text.specs.Clean.{is_dropped, capital, cleaned}
use Rattle.line_text.specs.Texts.{semicolon, texts_of}
use Rattle.outcome.specs.Code.{Outcome, done}
use Rattle.outcome.specs.Answer.{first_of, drops, Answer, passed, refused_at}
use Rattle.command.specs.Parsed.{parsed_of}
use Rattle.line.specs.Perform.{command_of}
use Rattle.line.specs.Line.{Line, waits, start_line, after_of, after_command, run_all, line_of}
use Rattle.module.specs.Module.{guard_of}
use Rattle.module.specs.declared.Module.{Module}
use Rattle.lockin.specs.Calls.{with_queue, line_ran, line_call}
use Rattle.demand2.specs.Lines.{continued, later_answer, placed_later, SeveralCommands}
use Rattle.invariant.proofs.OneCommand.{open_call}
use Rattle.invariant.proofs.StaysValid.{stays-valid}
use Rattle.queue.specs.Queue.{line_limit}

-- ---- x;y is divided as x and y are

cleaned-append : (x y : List ℕ) → cleaned (x ++ y) ≡ cleaned x ++ cleaned y
unfolding cleaned
cleaned-append [] y = refl
cleaned-append (b ∷ x) y = by (is_dropped b) (cleaned-append x y) where
  by : (t : Bool) → cleaned (x ++ y) ≡ cleaned x ++ cleaned y →
      cond t (cleaned (x ++ y)) (capital b ∷ cleaned (x ++ y)) ≡ cond t (cleaned x) (capital b ∷ cleaned x) ++ cleaned y
  by true e = e
  by false e = ap (λ s. capital b ∷ s) e

module _ (sep : ℕ) where
  on_head_some : (b : ℕ) (ps : List (List ℕ)) → 1 ≤ length (on_head b ps)
  unfolding on_head
  on_head_some b [] = omega arith
  on_head_some b (p ∷ ps) = omega arith

  parts_some : (s : List ℕ) → 1 ≤ length (parts sep s)
  unfolding parts
  parts_some [] = omega arith
  parts_some (b ∷ s) = by (eqb b sep) where
    by : (t : Bool) → 1 ≤ length (cond t ([] ∷ parts sep s) (on_head b (parts sep s)))
    by true = omega arith
    by false = on_head_some b (parts sep s)

  on_head_append : (b : ℕ) (ps qs : List (List ℕ)) → 1 ≤ length ps → on_head b (ps ++ qs) ≡ on_head b ps ++ qs
  unfolding on_head
  on_head_append b [] qs h = absurd (omega arith)
  on_head_append b (p ∷ ps) qs h = refl

  parts-append : (x y : List ℕ) → parts sep (x ++ sep ∷ y) ≡ parts sep x ++ parts sep y
  unfolding parts
  parts-append [] y = rw (eq-eqb sep sep refl) refl
  parts-append (b ∷ x) y = rw (parts-append x y) (by (eqb b sep)) where
    by : (t : Bool) → cond t ([] ∷ (parts sep x ++ parts sep y)) (on_head b (parts sep x ++ parts sep y))
        ≡ cond t ([] ∷ parts sep x) (on_head b (parts sep x)) ++ parts sep y
    by true = refl
    by false = on_head_append b (parts sep x) (parts sep y) (parts_some x)

texts_append : (x y : List ℕ) → texts_of (x ++ semicolon ∷ y) ≡ texts_of x ++ texts_of y
texts_append x y =
    ap (parts semicolon) (cleaned-append x (semicolon ∷ y) ∙ ap (λ s. cleaned x ++ s) kept)
    ∙ parts-append semicolon (cleaned x) (cleaned y) where
      kept : cleaned (semicolon ∷ y) ≡ semicolon ∷ cleaned y
      kept = unfold cleaned in refl

-- ---- and runs as they do

module _ (room : ℕ) where
  run-append : (ts us : List (List ℕ)) (l : Line) → l.report.dropped ≡ false →
      let r = run_all room ts l in
      run_all room (ts ++ us) l ≡ cond r.report.dropped r (run_all room us r)
  unfolding run_all
  run-append [] us l passes = rw passes refl
  run-append (t ∷ ts) us l passes =
      by (after_command room t l) (after_command room t l).report.dropped refl (run-append ts us (after_command room t l)) where
        by : (next : Line) (d : Bool) → next.report.dropped ≡ d →
            (next.report.dropped ≡ false →
            run_all room (ts ++ us) next
            ≡ cond (run_all room ts next).report.dropped (run_all room ts next)
            (run_all room us (run_all room ts next))) →
            let r = cond d next (run_all room ts next) in
            cond d next (run_all room (ts ++ us) next) ≡ cond r.report.dropped r (run_all room us r)
        by next true e ih = rw e refl
        by next false e ih = ih e

  -- a line n places further on
  abbrev further : ℕ → Line → Line
  further n l =
      record {
        after = l.after;
        one = l.one;
        two = l.two;
        out = l.out;
        report = record {
          answer = later_answer n l.report.answer;
          count = l.report.count + n;
          dropped = l.report.dropped;
        };
      }

  first_further : (n : ℕ) (a : Answer) (o : Outcome) (count : ℕ) →
      first_of (later_answer n a) o (count + n + 1) ≡ later_answer n (first_of a o (count + 1))
  unfolding first_of
  first_further n (Ok _) (Ok _) count = refl
  first_further n (Ok _) (Err r) count = ap (λ p. refused_at r p) (omega arith)
  first_further n (Err e) o count = refl

  step_further : (n : ℕ) (t : List ℕ) (l : Line) → after_command room t (further n l) ≡ further n (after_command room t l)
  unfolding after_command after_of
  step_further n t l =
      let e = command_of (room - length l.out) (waits l.out) (parsed_of t) l.after l.one l.two in
      let c : l.report.count + n + 1 ≡ l.report.count + 1 + n = omega arith in
      rw (first_further n l.report.answer e.report l.report.count, c) refl

  run_further : (n : ℕ) (ts : List (List ℕ)) (l : Line) → run_all room ts (further n l) ≡ further n (run_all room ts l)
  unfolding run_all
  run_further n [] l = refl
  run_further n (t ∷ ts) l =
      rw (step_further n t l) (by (after_command room t l).report.dropped (run_further n ts (after_command room t l))) where
        by : (d : Bool) → run_all room ts (further n (after_command room t l)) ≡ further n (run_all room ts (after_command room t l)) →
            cond d (further n (after_command room t l)) (run_all room ts (further n (after_command room t l)))
            ≡ further n (cond d (after_command room t l) (run_all room ts (after_command room t l)))
        by true e = refl
        by false e = e

  -- a line that is answered 0 was run whole
  first-passed : (a : Answer) (o : Outcome) (n : ℕ) → first_of a o n ≡ passed → drops o ≡ true → ⊥
  unfolding first_of drops
  first-passed (Ok _) (Ok _) n e d = false≢true d
  first-passed (Ok _) (Err r) n e d = let z : ◌≡◌ {A = ℕ} 0 1 = cc in omega arith
  first-passed (Err x) o n e d = let z : ◌≡◌ {A = ℕ} 0 1 = cc in omega arith

  step-passed : (t : List ℕ) (l : Line) → (after_command room t l).report.answer ≡ passed →
      (after_command room t l).report.dropped ≡ true → ⊥
  unfolding after_command after_of
  step-passed t l e d = first-passed l.report.answer _ (l.report.count + 1) e d

  step_count : (t : List ℕ) (l : Line) → (after_command room t l).report.count ≡ l.report.count + 1
  unfolding after_command after_of
  step_count t l = refl

  record Whole (ts : List (List ℕ)) (l r : Line) : Type 0 where
    passes : r.report.dropped ≡ false
    count : r.report.count ≡ l.report.count + length ts

  run-whole : (ts : List (List ℕ)) (l : Line) → l.report.dropped ≡ false → (run_all room ts l).report.answer ≡ passed →
      Whole ts l (run_all room ts l)
  unfolding run_all
  run-whole [] l passes = λ e. record { passes = passes; count = omega arith }
  run-whole (t ∷ ts) l passes =
      by (after_command room t l) (after_command room t l).report.dropped refl (step-passed t l) (step_count t l)
      (run-whole ts (after_command room t l))
    where
      by : (next : Line) (d : Bool) → next.report.dropped ≡ d →
          (next.report.answer ≡ passed → next.report.dropped ≡ true → ⊥) →
          next.report.count ≡ l.report.count + 1 →
          (next.report.dropped ≡ false → (run_all room ts next).report.answer ≡ passed →
          Whole ts next (run_all room ts next)) →
          (cond d next (run_all room ts next)).report.answer ≡ passed →
          Whole (t ∷ ts) l (cond d next (run_all room ts next))
      by next true z p c ih e = absurd (p e z)
      by next false z p c ih e =
          let w = ih z e in
          record { passes = w.passes; count = omega (arith, w.count) }

  -- a line that has run whole and silently is a new one further on
  begun : (l : Line) (n : ℕ) → l.out ≡ [] → l.report.answer ≡ passed → l.report.count ≡ 0 + n →
      l.report.dropped ≡ false →
      l ≡ further n (start_line l.after l.one l.two)
  begun l n o a c d =
      λ i.
      record {
        after = l.after;
        one = l.one;
        two = l.two;
        out = o i;
        report = record { answer = a i; count = c i; dropped = d i };
      }

module _ (room : ℕ) (x y : List ℕ) (short : length (x ++ semicolon ∷ y) ≤ line_limit) (m : Module) (one two : List ℕ)
    (passes : guard_of m (length one) (length two) ≡ done)
  where
    abbrev ran_first : Line
    ran_first = line_of room x m.state one two

    short-first : length x ≤ line_limit
    short-first = omega (arith, length-append x (semicolon ∷ y))

    short-second : length y ≤ line_limit
    short-second = omega (arith, length-append x (semicolon ∷ y))

    both : line_call room (x ++ semicolon ∷ y) m one two ≡ with_queue m.queue (line_ran (continued room y ran_first))
    unfolding line_of
    both =
        open_call room (x ++ semicolon ∷ y) m one two passes short
        ∙ ap (λ l. with_queue m.queue (line_ran l))
        (ap (λ ts. run_all room ts (start_line m.state one two)) (texts_append x y)
        ∙ run-append room (texts_of x) (texts_of y) (start_line m.state one two) refl)

    calls :
        let c = line_call room x m one two in
        c.report.answer ≡ passed → c.out ≡ [] →
        line_call room (x ++ semicolon ∷ y) m one two
        ≡ placed_later (length (texts_of x)) (line_call room y c.after c.one c.two)
    unfolding line_of
    calls =
        rw (open_call room x m one two passes short-first) λ a o.
        let w = run-whole room (texts_of x) (start_line m.state one two) refl a in
        let l = line_of room x m.state one two in
        let n = length (texts_of x) in
        let guard =
        rw (open_call room x m one two passes short-first) at ((stays-valid.line room x m one two).next passes) in
        both
        ∙ ap (λ d. with_queue m.queue (line_ran (cond d l (run_all room (texts_of y) l)))) w.passes
        ∙ ap (λ z. with_queue m.queue (line_ran (run_all room (texts_of y) z)))
        (begun room l n o a w.count w.passes)
        ∙ ap (λ z. with_queue m.queue (line_ran z))
        (run_further room n (texts_of y) (start_line l.after l.one l.two))
        ∙ ap (placed_later n)
        (sym (open_call room y (record { queue = m.queue; state = l.after }) l.one l.two guard short-second))

pub several_commands : SeveralCommands
several_commands room x y short m one two passes =
    record { both = both room x y short m one two passes; calls = calls room x y short m one two passes }
