-- A line's commands one by one: what a refused one changes, where the next one starts, which one the answer names.
-- Assumes nothing.
use Prim.Native.Nat.{ℕ, zero, suc, ◌+◌, ◌-◌, ◌^◌, ◌≤◌, ◌<◌}
use native.Mathlib.Omega.{arith}
use mathlib.Core.Logic.{◌≢◌}
use mathlib.Core.Path.{◌≡◌, refl, sym, ap, subst, ◌∙◌}
use mathlib.Core.Bool.{Bool, true, false, cond}
use mathlib.Core.List.{List, [], ◌∷◌, ◌++◌, append-nil}
use lib.Bits.{bit_or}
use lib.ListN.{length, get_or}
use borrow.Author.Tests.{eqb-true, eqb-false}
use Rattle.std.specs.Prelude.{Ok, Err}
use Rattle.laws.proofs.Tests.{never}
use Rattle.outcome.specs.Code.{code_of, Outcome, done}
use Rattle.outcome.specs.declared.Refusal.{Refusal}
use Rattle.outcome.specs.declared.Refusal.TheVariants.{Malformed, NoRoom}
use Rattle.outcome.proofs.Every.{every_refusal, by_number, same_refusal}
use Rattle.outcome.specs.Answer.{is_no_room, drops, first_of, Answer, refused_at}
use Rattle.outcome.proofs.Placed.{told_refusal, told_place}
use Rattle.outcome.specs.Answer as answer
use Rattle.command.specs.Parsed.{parsed_of}
use Rattle.status.proofs.Bits.{bit_lt, bit-or, power_here, power_other}
use Rattle.state.specs.State.{with_error_bit}
use Rattle.state.specs.declared.State.{State}
use Rattle.line.specs.Perform.{Effect, refused_by, done_by, command_of}
use Rattle.line.specs.Line.{Line, waits, after_of, after_command, run_all}
use Rattle.lockin.specs.Calls.{reported_length}
use Rattle.demand1.specs.Demand1.{OfCommand, malformed, out_of_range, not_allowed, no_room, BitSet, Marked}
use Rattle.demand1.specs.Demand1.{RefusedCommand, effect_in, RefusedStep, AcceptedStep, Continues, OneByOne}
use Rattle.demand1.specs.Demand1.{Commands, FirstRefusedCommand}
use Rattle.demand1.specs.Demand1 as demand
use Rattle.invariant.proofs.Storable.{parsed_storable}
use Rattle.invariant.proofs.Command.{command_by}

-- ---- the bit laid down

bit-set : (i x : ℕ) → BitSet i x (bit_or x (2 ^ i))
bit-set i x =
    record {
      here = bit-or x (2 ^ i) i ∙ omega (arith, power_here i, bit_lt x i);
      others = λ j n. bit-or x (2 ^ i) j ∙ omega (arith, power_other i j (λ e. n (sym e)));
    }

pub marked-only : (r : Refusal) (i : ℕ) (s : State) → (code_of r).bits ≡ 2 ^ i → Marked r i s (with_error_bit r s)
unfolding with_error_bit
marked-only r i s e =
    record {
      state = refl;
      standard = rw e (bit-set i s.registers.standard);
      lia = refl;
      errors = refl;
      settings = refl;
      acquisition = refl;
      enables = refl;
      latest = refl;
      installation = refl;
    }

-- the refusals of a command have the first four numbers
command-bit : (r : Refusal) → (code_of r).number ≤ 4 → (i : ℕ) × OfCommand r i × ((code_of r).bits ≡ 2 ^ i)
command-bit r h = rw (← by_number r) (at ((code_of r).number - 1) (omega arith)) where
  at : (n : ℕ) → n < 4 →
      let q = get_or every_refusal n Malformed in (i : ℕ) × OfCommand q i × ((code_of q).bits ≡ 2 ^ i)
  at zero l = (5, malformed, refl)
  at (suc zero) l = (4, out_of_range, refl)
  at (suc (suc zero)) l = (4, not_allowed, refl)
  at (suc (suc (suc zero))) l = (2, no_room, refl)
  at (suc (suc (suc (suc n)))) l = absurd (omega arith)

-- ---- commands

refused-command : (r : Refusal) → (code_of r).number ≤ 4 → (s : State) (one two : List ℕ) →
    RefusedCommand r s one two (refused_by r s one two)
refused-command r n s one two =
    let b = command-bit r n in
    record {
      bit = b.0;
      laid = b.1;
      marked = marked-only r b.0 s b.2;
      first = refl;
      second = refl;
      reply = refl;
    }

pub command-refused : (room : ℕ) (waiting : Bool) (text : List ℕ) (s : State) (one two : List ℕ) (refusal : Refusal) →
    (command_of room waiting (parsed_of text) s one two).report ≡ Err refusal →
    RefusedCommand refusal s one two (command_of room waiting (parsed_of text) s one two)
unfolding done_by
command-refused room waiting text s one two refusal =
    command_by room waiting s one two
    (λ (e : Effect). e.report ≡ Err refusal → RefusedCommand refusal s one two e)
    (λ p. never (cc))
    (λ r n p. let same : r ≡ refusal = cc in rw (← same) (refused-command r n s one two))
    (λ kind k a p. never (cc))
    (parsed_of text) (parsed_storable text)

-- ---- one command of a line

first_done : (a : Answer) (n : ℕ) → first_of a done n ≡ a
unfolding first_of
first_done (Ok _) n = refl
first_done (Err e) n = refl

module _ (room : ℕ) (text : List ℕ) (l : Line) where
  -- whether the rest is dropped goes by the outcome
  dropped_by : (o : Outcome) → (effect_in room text l).report ≡ o → (after_command room text l).report.dropped ≡ drops o
  unfolding after_command after_of
  dropped_by o p = ap drops p

  next_by : (o : Outcome) → (effect_in room text l).report ≡ o → (more : List (List ℕ)) →
      let next = after_command room text l in
      run_all room (text ∷ more) l ≡ cond (drops o) next (run_all room more next)
  unfolding run_all
  next_by o p more = rw (dropped_by o p)

  answer_by : (o : Outcome) → (effect_in room text l).report ≡ o →
      (after_command room text l).report.answer ≡ first_of l.report.answer o (l.report.count + 1)
  unfolding after_command after_of
  answer_by o p = ap (λ x. first_of l.report.answer x (l.report.count + 1)) p

  pub step-refused : (refusal : Refusal) → (effect_in room text l).report ≡ Err refusal →
      RefusedStep refusal room text l
  unfolding after_command after_of drops
  step-refused refusal p =
      let c =
      command-refused (room - length l.out) (waits l.out) text l.after l.one l.two refusal p in
      record {
        report = p;
        bit = c.bit;
        laid = c.laid;
        marked = c.marked;
        first = c.first;
        second = c.second;
        reply = ap (λ (b : List ℕ). l.out ++ b) c.reply ∙ append-nil l.out;
        answer = answer_by (Err refusal) p;
        next = next_by (Err refusal) p;
      }

  step-accepted : (effect_in room text l).report ≡ done → AcceptedStep room text l
  unfolding after_command after_of drops
  step-accepted p =
      record {
        report = p;
        state = refl;
        first = refl;
        second = refl;
        reply = refl;
        answer = answer_by done p ∙ first_done l.report.answer (l.report.count + 1);
        next = next_by done p;
      }

  -- a command of a line is accepted or refused
  step_by_lem : (P : Type 0) → (AcceptedStep room text l → P) → ((r : Refusal) → RefusedStep r room text l → P) → P
  step_by_lem P takes refuses = by (effect_in room text l).report refl where
    by : (o : Outcome) → (effect_in room text l).report ≡ o → P
    by (Ok _) p = takes (step-accepted p)
    by (Err r) p = refuses r (step-refused r p)

-- only 4 drops the rest of the line
no_room_lem : (r : Refusal) → is_no_room r ≡ true → r ≡ NoRoom
unfolding is_no_room
no_room_lem r e = same_refusal r NoRoom (eqb-true _ _ e)

room_left : (r : Refusal) → is_no_room r ≡ false → r ≢ NoRoom
unfolding is_no_room
room_left r e h = eqb-false _ _ e (ap (λ (q : Refusal). (code_of q).number) h)

-- ---- the commands of a line

-- what holds of a line by its commands: of none, of one more that the line goes on after, of one that drops the rest
module _ (room : ℕ) (P : List (List ℕ) → Line → Line → Type 0)
    (ends : (l : Line) → P [] l l)
    (goes : (text : List ℕ) (more : List (List ℕ)) (l end : Line) → Continues room text l →
    (after_command room text l).report.dropped ≡ false → P more (after_command room text l) end → P (text ∷ more) l end)
    (drop : (text : List ℕ) (more : List (List ℕ)) (l : Line) → RefusedStep NoRoom room text l →
    (after_command room text l).report.dropped ≡ true → P (text ∷ more) l (after_command room text l))
  where
    module _ (text : List ℕ) (more : List (List ℕ)) (l : Line)
        (rest : P more (after_command room text l) (run_all room more (after_command room text l)))
      where
        run_goes : Continues room text l → (after_command room text l).report.dropped ≡ false →
            run_all room (text ∷ more) l ≡ run_all room more (after_command room text l) →
            P (text ∷ more) l (run_all room (text ∷ more) l)
        run_goes c d e =
            let end = run_all room more (after_command room text l) in
            subst (P (text ∷ more) l) (sym e) (goes text more l end c d rest)

        run-refused : (r : Refusal) → RefusedStep r room text l → (t : Bool) → is_no_room r ≡ t →
            P (text ∷ more) l (run_all room (text ∷ more) l)
        unfolding is_no_room drops
        run-refused r a true e =
            let b : RefusedStep NoRoom room text l = rw (no_room_lem r e) at a in
            subst (P (text ∷ more) l) (sym (b.next more))
            (drop text more l b (dropped_by room text l (Err NoRoom) b.report))
        run-refused r a false e =
            run_goes (demand.refused r a (room_left r e))
            (dropped_by room text l (Err r) a.report ∙ e) (a.next more ∙ rw e)

        run-next : P (text ∷ more) l (run_all room (text ∷ more) l)
        unfolding drops
        run-next =
            step_by_lem room text l (P (text ∷ more) l (run_all room (text ∷ more) l))
            (λ a. run_goes (demand.accepted a) (dropped_by room text l done a.report) (a.next more))
            (λ r a. run-refused r a (is_no_room r) refl)

    run_by : (texts : List (List ℕ)) (l : Line) → P texts l (run_all room texts l)
    unfolding run_all
    run_by [] l = ends l
    run_by (text ∷ more) l = run-next text more l (run_by more (after_command room text l))

-- one more command before the others
commands-cons : (room : ℕ) (text : List ℕ) (l : Line) → Continues room text l →
    (more : List (List ℕ)) (end : Line) (n : ℕ) → Commands room (after_command room text l) more end n →
    Commands room l (text ∷ more) end n
commands-cons room text l c more end n (demand.whole texts last t) =
    demand.whole (text ∷ texts) last (demand.next text texts l last c t)
commands-cons room text l c more end n (demand.room_too_small before other dropped here t r) =
    demand.room_too_small (text ∷ before) other dropped here (demand.next text before l here c t) r

-- the commands of a line, with the length reported, which goes by whether the rest was dropped
pub commands_are : (room : ℕ) (texts : List (List ℕ)) (l : Line) → l.report.dropped ≡ false →
    Commands room l texts (run_all room texts l) (reported_length (run_all room texts l))
commands_are room =
    run_by room (λ texts l end. l.report.dropped ≡ false → Commands room l texts end (reported_length end))
    (λ l d. at [] l l false d (demand.whole [] l (demand.none l)))
    (λ text more l end c d f e. commands-cons room text l c more end (reported_length end) (f d))
    (λ text more l r d e.
    at (text ∷ more) l (after_command room text l) true d (demand.room_too_small [] text more l (demand.none l) r))
  where
    at : (texts : List (List ℕ)) (l end : Line) (t : Bool) → end.report.dropped ≡ t →
        Commands room l texts end (cond t 0 (length end.out)) → Commands room l texts end (reported_length end)
    at texts l end t e =
        subst (λ (d : Bool). Commands room l texts end (cond d 0 (length end.out))) (sym e)

-- ---- the answer of a line

-- a refusal that the line has stays its answer; a line without one passes where each command is accepted, and else the
-- first refused one is its answer
pub record Answering (room : ℕ) (texts : List (List ℕ)) (l end : Line) : Type 0 where
  pub kept : (r : Refusal) (place : ℕ) → l.report.answer ≡ refused_at r place →
      end.report.answer ≡ refused_at r place
  pub passed : l.report.answer ≡ answer.passed → end.report.answer ≡ answer.passed →
      OneByOne (AcceptedStep room) room texts l end
  pub placed : l.report.answer ≡ answer.passed → (r : Refusal) (place : ℕ) →
      end.report.answer ≡ refused_at r place →
      (p : ℕ) × (place ≡ l.report.count + p) × FirstRefusedCommand r p room texts l

answering_ends : (room : ℕ) (l : Line) → Answering room [] l l
answering_ends room l =
    record {
      kept = λ r place e. e;
      passed = λ e f. demand.none l;
      placed = λ e r place f. never (cc);
    }

module _ (room : ℕ) (text : List ℕ) (more : List (List ℕ)) (l end : Line) where
  answering_accepted : AcceptedStep room text l → Answering room more (after_command room text l) end →
      Answering room (text ∷ more) l end
  unfolding after_command after_of
  answering_accepted a f =
      record {
        kept = λ r place e. f.kept r place (a.answer ∙ e);
        passed = λ e g. demand.next text more l end a (f.passed (a.answer ∙ e) g);
        placed = λ e r place g. later r place (f.placed (a.answer ∙ e) r place g);
      }
    where
      later : (r : Refusal) (place : ℕ) →
          ((p : ℕ) × (place ≡ (after_command room text l).report.count + p)
          × FirstRefusedCommand r p room more (after_command room text l)) →
          (p : ℕ) × (place ≡ l.report.count + p) × FirstRefusedCommand r p room (text ∷ more) l
      later r place x =
          let y = x.2 in (
            x.0 + 1,
            omega (arith, x.1),
            record {
              before = text ∷ y.before;
              text = y.text;
              after = y.after;
              commands = ap (λ (ts : List (List ℕ)). text ∷ ts) y.commands;
              counted = omega (arith, y.counted);
              here = y.here;
              accepted = demand.next text y.before l y.here a y.accepted;
              refused = y.refused;
            },
          )

  -- after a refused command: what the line answers then stays its answer
  module _ (r : Refusal) (a : RefusedStep r room text l)
      (stays : (q : Refusal) (place : ℕ) → (after_command room text l).report.answer ≡ refused_at q place →
      end.report.answer ≡ refused_at q place)
    where
      told_here : l.report.answer ≡ answer.passed → end.report.answer ≡ refused_at r (l.report.count + 1)
      unfolding first_of
      told_here e = stays r (l.report.count + 1) (a.answer ∙ rw e)

      kept_here : (q : Refusal) (place : ℕ) → l.report.answer ≡ refused_at q place →
          end.report.answer ≡ refused_at q place
      unfolding first_of
      kept_here q place e = stays q place (a.answer ∙ rw e)

      answering_refused : Answering room (text ∷ more) l end
      answering_refused =
          record {
            kept = kept_here;
            passed = λ e f. never (cc (told_here e));
            placed = λ e q place f.
                let told : refused_at r (l.report.count + 1) ≡ refused_at q place = sym (told_here e) ∙ f in
                let same : r ≡ q = told_refusal told in
                let at : place ≡ l.report.count + 1 = sym (told_place told) in (
                  1,
                  at,
                  record {
                    before = [];
                    text = text;
                    after = more;
                    commands = refl;
                    counted = omega arith;
                    here = l;
                    accepted = demand.none l;
                    refused = rw same at a;
                  },
                );
          }

pub answering : (room : ℕ) (texts : List (List ℕ)) (l : Line) → Answering room texts l (run_all room texts l)
answering room =
    run_by room (Answering room) (answering_ends room) (λ text more l end c d f. by text more l end f c)
    (λ text more l a d. answering_refused room text more l (after_command room text l) NoRoom a (λ q place e. e))
  where
    by : (text : List ℕ) (more : List (List ℕ)) (l end : Line) → Answering room more (after_command room text l) end →
        Continues room text l → Answering room (text ∷ more) l end
    by text more l end f (demand.accepted a) = answering_accepted room text more l end a f
    by text more l end f (demand.refused r a n) = answering_refused room text more l end r a f.kept
