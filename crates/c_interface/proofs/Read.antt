-- A line, a place and a refusal that can be told are read off the number. Assumes nothing.
use Prim.Native.Nat.{ℕ, ◌^◌, ◌≤◌, ◌<◌}
use mathlib.Core.Path.{◌≡◌, refl}
use mathlib.Core.List.{List}
use native.Mathlib.Omega.{arith}
use lib.Dec.{leb, ltb}
use borrow.Author.Tests.{leb-true, ltb-true}
use Rattle.std.proofs.Common.{Ok, Err}
use Rattle.outcome.specs.Code.{code_of}
use Rattle.outcome.specs.declared.Refusal.{Refusal}
use Rattle.outcome.proofs.Every.{refusal_rule, same_refusal}
use Rattle.extreme_courses.specs.Model.{model_of}
use Rattle.script.specs.Check.{check_of}
use Rattle.verdict.specs.Verdict.{Verdict, passes, objected_at}
use Rattle.verdict.specs.PackedNumber.{line_most, place_most, packed, packed_number, line_read, place_read, refusal_read}
use Rattle.c_interface.specs.Read.{ReadsAs, Read}
use Rattle.c_interface.proofs.Counted.{Fits, check_fits}

-- ---- the refusals' numbers

-- each is a byte, and none is 0
numbered : (r : Refusal) → (1 ≤ (code_of r).number) × ((code_of r).number < 2 ^ 8)
numbered r = (
  leb-true 1 _ (refusal_rule (λ q. leb 1 (code_of q).number) refl r),
  ltb-true _ (2 ^ 8) (refusal_rule (λ q. ltb (code_of q).number (2 ^ 8)) refl r),
)

-- ---- what is read off

module _ (line place number : ℕ) (h : line ≤ line_most) (g : place ≤ place_most) (f : number < 2 ^ 8) where
  line_read_lem : line_read (packed line place number) ≡ line
  line_read_lem = omega arith

  place_read_lem : place_read (packed line place number) ≡ place
  place_read_lem = omega arith

  refusal_read_lem : refusal_read (packed line place number) ≡ number
  refusal_read_lem = omega arith

zero-fine : (v : Verdict) → packed_number v ≡ 0 → v ≡ passes
unfolding packed_number
zero-fine (Ok u) e = refl
zero-fine (Err o) e = absurd (omega (arith, (numbered o.refusal).0))

fine-zero : (v : Verdict) → v ≡ passes → packed_number v ≡ 0
unfolding packed_number
fine-zero v e = rw e

reads : (line place : ℕ) (r : Refusal) → line ≤ line_most → place ≤ place_most →
    ReadsAs (packed_number (objected_at line place r)) line place r
unfolding packed_number
reads line place r h g =
    let f = (numbered r).1 in
    let n = (code_of r).number in
    record {
      in_line = line_read_lem line place n h g f;
      at_place = place_read_lem line place n h g f;
      by_number = refusal_read_lem line place n h g f;
    }

module _ (v : Verdict) (line place : ℕ) (r : Refusal) where
  report : Fits v → v ≡ objected_at line place r → ReadsAs (packed_number v) line place r
  report fits e = rw e (let f : Fits (objected_at line place r) = rw e at fits in reads line place r f.0 f.1)

  back : Fits v → ReadsAs (packed_number v) line place r → v ≡ objected_at line place r
  back = by v where
    by : (v : Verdict) → Fits v → ReadsAs (packed_number v) line place r → v ≡ objected_at line place r
    by (Ok u) f e =
        let z : 0 ≡ (code_of r).number = unfold packed_number in e.by_number in absurd (omega (arith, (numbered r).0))
    by (Err o) f e =
        let k = reads o.line o.place o.refusal f.0 f.1 in
        let a : o.line ≡ line = cc in
        let b : o.place ≡ place = cc in
        let c : o.refusal ≡ r = same_refusal o.refusal r (cc) in
        cc

pub read : (capacity : ℕ) (script : List ℕ) → Read capacity script
read capacity script =
    let v = check_of (model_of capacity) script in
    record {
      yes = (zero-fine v, fine-zero v);
      no = λ h line place r.
          let fits = check_fits (model_of capacity) script h in
          (report v line place r fits, back v line place r fits);
    }
