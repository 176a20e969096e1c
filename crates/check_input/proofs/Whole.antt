-- What is kept of an input is enough. Assumes nothing.
use Prim.Native.Nat.{ℕ, suc, ◌+◌, ◌<◌, ◌≤◌}
use native.Mathlib.Omega.{arith}
use mathlib.Core.Bool.{Bool, true, false, cond}
use mathlib.Core.Path.{◌≡◌, refl, sym, ap, ◌∙◌}
use mathlib.Core.List.{List, [], ◌∷◌, ◌++◌, append_assoc, append-nil}
use lib.Dec.{leb, ltb, eqb}
use lib.ListN.{length, take, drop, set, length-set, length-take}
use lib.Seq.{take_all, take-nil, take-suc-set, take-append-le, length-take-le}
use native.Mathlib.Numerals.{add-one}
use borrow.Author.Tests.{lt-ltb, le-ltb, leb-true, leb-false, ltb-true, ltb-false}
use Rattle.split.specs.Divide.{span, before, after}
use Rattle.outcome.specs.declared.Refusal.TheVariants.{LongScriptLine, BadTraces}
use Rattle.settings.specs.Limits.{capacity_fits}
use Rattle.extreme_courses.specs.Model.{model_of}
use Rattle.extreme_courses.specs.Extremes.{start_extremes}
use Rattle.script.specs.Check.{finding, verdict_of, lines_of, check_of}
use Rattle.verdict.specs.Verdict.{Verdict, objected_at}
use Rattle.check_input.specs.Input.{script_limit, capacity_of, limited_check, input_verdict}
use Rattle.check_input.specs.Bytes.{line_feed, Memory, memory, start_input, capacity_after, line_one_after}
use Rattle.check_input.specs.Bytes.{script_after, after_byte, after_bytes}
use Rattle.check_input.specs.Whole.{verdict_from, Whole}
use Rattle.check_input.proofs.Capacity.{capacity_all, as_told, check_same}

pieces : (first second : List ℕ) (h : Memory) → after_bytes (first ++ second) h ≡ after_bytes second (after_bytes first h)
unfolding after_bytes
pieces [] second h = refl
pieces (b ∷ bs) second h = pieces bs second (after_byte b h)

-- ---- the script

abbrev at : ℕ → ℕ → List ℕ → Memory
at c n script = memory (record { ending = true; capacity = c; len = n }) script

-- what is kept of the script's bytes
pub record Kept (c : ℕ) (bytes : List ℕ) (h : Memory) : Type 0 where
  pub report : h.input.capacity ≡ c
  pub first : take h.input.len h.script ≡ bytes

-- of bytes behind the first n: as many as there is room for
abbrev Keeps : List ℕ → ℕ → ℕ → List ℕ → Type 0
Keeps bs c n script = Kept c (take (length script) (take n script ++ bs)) (after_bytes bs (at c n script))

-- a byte more, where there is room for it and where there is none
module _ (b : ℕ) (bs : List ℕ) (c n : ℕ) (script : List ℕ) (h : n ≤ length script) where
  room : n < length script → Keeps bs c (n + 1) (set script n b) → Keeps (b ∷ bs) c n script
  unfolding after_bytes after_byte script_after
  room l later =
      let e : take (n + 1) (set script n b) ++ bs ≡ take n script ++ b ∷ bs =
      rw (add-one, take-suc-set script n b l) (append_assoc (take n script) (b ∷ []) bs) in
      rw (lt-ltb n (length script) l) (rw (length-set script n b, e) at later)

  full : length script ≤ n → Keeps bs c n script → Keeps (b ∷ bs) c n script
  unfolding after_bytes after_byte script_after
  full l later =
      let m = length-take-le n script h in
      let f : length script ≤ length (take n script) = omega arith in
      let e : take (length script) (take n script ++ bs) ≡ take (length script) (take n script ++ b ∷ bs) =
      take-append-le (length script) (take n script) bs f
      ∙ sym (take-append-le (length script) (take n script) (b ∷ bs) f) in
      rw (le-ltb n (length script) l) (rw e at later)

  turn : (t : Bool) → ltb n (length script) ≡ t → (n < length script → Keeps bs c (n + 1) (set script n b)) →
      Keeps bs c n script → Keeps (b ∷ bs) c n script
  turn true e more same = let l = ltb-true n (length script) e in room l (more l)
  turn false e more same = full (ltb-false n (length script) e) same

no_more : (c n : ℕ) (script : List ℕ) → Keeps [] c n script
unfolding after_bytes
no_more c n script =
    let m = length-take n script in
    let e : take (length script) (take n script ++ []) ≡ take n script =
    rw (append-nil (take n script)) (take_all (length script) (take n script) (omega arith)) in
    record { report = refl; first = sym e }

kept : (bs : List ℕ) (c n : ℕ) (script : List ℕ) → n ≤ length script → Keeps bs c n script
kept [] c n script h = no_more c n script
kept (b ∷ bs) c n script h =
    let more : n < length script → Keeps bs c (n + 1) (set script n b) =
    λ l. kept bs c (n + 1) (set script n b) (rw (length-set script n b) (omega arith)) in
    turn b bs c n script h (ltb n (length script)) refl more (kept bs c n script h)

-- ---- line one

abbrev unended : ℕ → List ℕ → Memory
unended c script = memory (record { ending = false; capacity = c; len = 0 }) script

abbrev Agrees : List ℕ → ℕ → List ℕ → Type 0
Agrees input c lent =
    verdict_from (after_bytes input (unended c lent))
    ≡ limited_check (capacity_all (before line_feed input) c) (take (length lent) (after line_feed input))

-- the LF that ends it, and any other byte
module _ (b : ℕ) (bs : List ℕ) (c : ℕ) (lent : List ℕ) where
  ended_by : eqb b line_feed ≡ true → after_byte b (unended c lent) ≡ at c 0 lent
  unfolding after_byte line_one_after
  ended_by e = rw e

  goes_on : eqb b line_feed ≡ false → after_byte b (unended c lent) ≡ unended (capacity_after b c) lent
  unfolding after_byte line_one_after
  goes_on e = rw e

  span_none : eqb b line_feed ≡ true → span line_feed (b ∷ bs) ≡ 0
  unfolding span
  span_none e = rw e

  span_more : eqb b line_feed ≡ false → span line_feed (b ∷ bs) ≡ suc (span line_feed bs)
  unfolding span
  span_more e = rw e

  -- what is said, by where line one ends
  abbrev from : ℕ → Verdict
  from n = limited_check (capacity_all (take n (b ∷ bs)) c) (take (length lent) (drop (suc n) (b ∷ bs)))

  line-turn : (t : Bool) → eqb b line_feed ≡ t → Agrees bs (capacity_after b c) lent → Agrees (b ∷ bs) c lent
  unfolding after_bytes capacity_all
  line-turn true e later =
      let k = kept bs c 0 lent (omega arith) in
      ap (λ h. verdict_from (after_bytes bs h)) (ended_by e)
      ∙ rw (k.report, k.first) refl
      ∙ sym (ap from (span_none e))
  line-turn false e later = ap (λ h. verdict_from (after_bytes bs h)) (goes_on e) ∙ later ∙ sym (ap from (span_more e))

line-one : (input : List ℕ) (c : ℕ) (lent : List ℕ) → Agrees input c lent
line-one [] c lent = unfold after_bytes capacity_all span in rw (take-nil (length lent))
line-one (b ∷ bs) c lent = line-turn b bs c lent (eqb b line_feed) refl (line-one bs (capacity_after b c) lent)

-- ---- the bytes that are dropped

enough : (c n : ℕ) (script : List ℕ) → script_limit < n → limited_check c (take n script) ≡ limited_check c script
unfolding limited_check check_of
enough c n script h = by (leb (length script) n) refl
  where
    by : (t : Bool) → leb (length script) n ≡ t → limited_check c (take n script) ≡ limited_check c script
    by true e = rw (take_all n script (leb-true (length script) n e))
    by false e =
        let l = leb-false (length script) n e in
        let m = length-take-le n script (omega arith) in
        rw (m, lt-ltb script_limit n h, lt-ltb script_limit (length script) (omega arith)) (either (capacity_fits c))
      where
        finds : List ℕ → Verdict
        finds lines = verdict_of (finding (model_of c) (lines_of lines) start_extremes)

        either : (t : Bool) →
            cond t (objected_at 0 0 LongScriptLine) (cond t (finds (take n script)) (objected_at 0 0 BadTraces))
            ≡ cond t (objected_at 0 0 LongScriptLine) (cond t (finds script) (objected_at 0 0 BadTraces))
        either true = refl
        either false = refl

pub whole : Whole
unfolding input_verdict
whole = record { pieces = pieces; verdict_numbers = verdict_numbers }
  where
    verdict_numbers : (input lent : List ℕ) → script_limit < length lent →
        verdict_from (after_bytes input (memory start_input lent)) ≡ input_verdict input
    verdict_numbers input lent h =
        let line = before line_feed input in
        let script = after line_feed input in
        line-one input 0 lent
        ∙ enough (capacity_all line 0) (length lent) script h
        ∙ check_same (capacity_all line 0) (capacity_of line) script (as_told line)
