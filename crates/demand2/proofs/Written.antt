-- What is written of a value, read again, sets that value: once over the step, the bias and the decimals. Assumes
-- nothing.
use Prim.Native.Nat.{ℕ, ◌+◌, ◌-◌, ◌*◌, ◌/◌, ◌%◌, ◌^◌, ◌<◌, ◌≤◌}
use mathlib.Core.Path.{◌≡◌, refl, sym, ap, ◌∙◌}
use mathlib.Core.Bool.{Bool, true, false, cond, not, ◌&&◌, ◌||◌, or-true}
use mathlib.Core.List.{List}
use native.Mathlib.Omega.{arith}
use native.Mathlib.Nat.{div-add-mod', mod-one, add-zero}
use lib.Dec.{T, leb, ltb, eqb, eqb→eq, leb→le}
use borrow.Author.Tests.{lt-ltb, le-ltb, le-leb, lt-leb, leb-true, ltb-true, ltb-false, eqb-true}
use Rattle.laws.proofs.Tests.{never}
use Rattle.number.specs.Number.{is_number}
use Rattle.number.specs.Value.{exact_of}
use Rattle.number.specs.Parts.{cap, quantity_of, read_of, fits_range, rounded_to, placed_in, value_in, taken_of}
use Rattle.number.specs.declared.Range.{Range}
use Rattle.number.specs.declared.Quantity.{Quantity}
use Rattle.std.specs.Prelude.{Some, None}
use Rattle.laws.proofs.Tests.{and_first, and_second}
use Rattle.format.specs.Text.{distance}
use Rattle.format.proofs.RoundTrip.{read_again}
use Rattle.settings.specs.Table.{table, row_of, turned_of, phase}
use Rattle.settings.specs.Setting.{step_of, turned_at}
use Rattle.settings.specs.Parts.{range_of, value_taken}
use Rattle.settings.specs.Valid.{value_valid}
use Rattle.settings.proofs.Rows.{row_rule, row_size, row_decimals, step-least, phase-row}
use Rattle.settings.proofs.Phase.{turned_only}
use Rattle.settings.proofs.Exact.{value_exact}
use Rattle.demand2.specs.Written.{written, WrittenAgain, WrittenApart}

-- a value kept as v with its bias, known exactly
abbrev pub whole : ℕ → ℕ → Quantity
whole bias v = record { negative = ltb v bias; whole = distance bias v; half = false; exact = true }

-- a value on a step rounds to itself
rounds : (step n : ℕ) (negative : Bool) → 1 ≤ step → n % step ≡ 0 → rounded_to step (record { negative = negative; whole = n; half = false; exact = true }) ≡ n
unfolding rounded_to
rounds step n negative p h = rw (h, lt-leb step (2 * 0 + 0) (omega arith), add-zero (n / step)) (omega (arith, div-add-mod' n step))

-- a value in a range and on its step is taken as it is
module _ (r : Range) (v : ℕ) (low : r.low ≤ v) (high : v ≤ r.high) (bias : r.bias < 2 ^ 32) (small : r.high < 2 ^ 32)
    (step : 1 ≤ r.step) (on : distance r.bias v % r.step ≡ 0) where
  fits : fits_range r (whole r.bias v) ≡ true
  unfolding fits_range
  fits = by (ltb v r.bias) refl where
    by : (t : Bool) → ltb v r.bias ≡ t →
        cond t
        (leb (r.low + distance r.bias v + 1) (r.bias + 1) && leb r.bias (r.high + distance r.bias v))
        (leb r.low (r.bias + distance r.bias v) && leb (r.bias + distance r.bias v + 1) (r.high + 1))
        ≡ true
    by true e =
        let l = ltb-true v r.bias e in
        rw (le-leb (r.low + distance r.bias v + 1) (r.bias + 1) (omega arith), le-leb r.bias (r.high + distance r.bias v) (omega arith))
    by false e =
        let l = ltb-false v r.bias e in
        rw (le-leb r.low (r.bias + distance r.bias v) (omega arith), le-leb (r.bias + distance r.bias v + 1) (r.high + 1) (omega arith))

  placed : placed_in r (whole r.bias v) ≡ v
  unfolding placed_in
  placed = rw (rounds r.step (distance r.bias v) (ltb v r.bias) step on) (by (ltb v r.bias) refl) where
    by : (t : Bool) → ltb v r.bias ≡ t → cond t (r.bias - distance r.bias v) (r.bias + distance r.bias v) ≡ v
    by true e = let l = ltb-true v r.bias e in omega arith
    by false e = let l = ltb-false v r.bias e in omega arith

  pub taken-whole : taken_of r (whole r.bias v) ≡ Some v
  unfolding taken_of value_in
  taken-whole =
      rw (lt-ltb (distance r.bias v) cap (omega arith), fits, or-true (not r.whole), placed, le-ltb 4294967295 v (omega arith))

-- a text that is read is a number, and what is read of it
pub record Read (decimals : ℕ) (s : List ℕ) (q : Quantity) : Type 0 where
  pub number : is_number s ≡ true
  pub kept : quantity_of (exact_of decimals s) ≡ q

pub read_as : (decimals : ℕ) (s : List ℕ) (q : Quantity) → read_of decimals s ≡ Some q → Read decimals s q
unfolding read_of
read_as decimals s q = by (is_number s) refl where
  by : (t : Bool) → is_number s ≡ t → cond t (Some (quantity_of (exact_of decimals s))) None ≡ Some q → Read decimals s q
  by true n e = record { number = n; kept = cc }
  by false n e = never (cc)

-- a kept value lies in its row, and in the argument's range
record Kept (entry v : ℕ) : Type 0 where
  low : (row_of entry).low ≤ v
  high : v ≤ (row_of entry).high
  least : (row_of entry).least ≤ v
  most : v ≤ (row_of entry).most
  step : v % step_of entry v ≡ 0

kept_in : (entry v : ℕ) → value_valid entry v ≡ true → Kept entry v
unfolding value_valid table
kept_in entry v h =
    let rest = and_second (leb (row_of entry).least v) (leb v (row_of entry).most && eqb (v % step_of entry v) 0) h in
    let l = leb-true (row_of entry).least v (and_first (leb (row_of entry).least v) (leb v (row_of entry).most && eqb (v % step_of entry v) 0) h) in
    let m = leb-true v (row_of entry).most (and_first (leb v (row_of entry).most) (eqb (v % step_of entry v) 0) rest) in
    record {
      low = omega (arith, l, leb→le (row_of entry).low (row_of entry).least (row_rule (λ r. leb r.low r.least) tt tt entry));
      high = omega (arith, m, leb→le (row_of entry).most (row_of entry).high (row_rule (λ r. leb r.most r.high) tt tt entry));
      least = l;
      most = m;
      step = eqb-true (v % step_of entry v) 0 (and_second (leb v (row_of entry).most) (eqb (v % step_of entry v) 0) rest);
    }

pub kept_size : (entry v : ℕ) → value_valid entry v ≡ true → v ≤ 2147483648
kept_size entry v h = omega (arith, (kept_in entry v h).most, row_size entry)

-- where there is a bias the step is 1, so that the value without its bias lies on the step too
distance-step : (entry v : ℕ) → v % step_of entry v ≡ 0 →
    distance (row_of entry).bias v % step_of entry (distance (row_of entry).bias v) ≡ 0
unfolding step_of table
distance-step entry v h =
    by (eqb (row_of entry).bias 0) refl (row_of entry).scales refl
    (row_rule (λ r. eqb r.bias 0 || eqb (cond r.scales 0 r.step) 1) tt tt entry) where
      by : (t : Bool) → eqb (row_of entry).bias 0 ≡ t → (f : Bool) → (row_of entry).scales ≡ f →
          T (t || eqb (cond f 0 (row_of entry).step) 1) →
          distance (row_of entry).bias v % step_of entry (distance (row_of entry).bias v) ≡ 0
      by true e f g u =
          let z : distance (row_of entry).bias v ≡ v = omega (arith, eqb-true (row_of entry).bias 0 e) in
          rw z h
      by false e true g u = absurd u
      by false e false g u = rw (g, eqb→eq (row_of entry).step 1 u) (mod-one (distance (row_of entry).bias v))

-- a row that turns leaves a kept value as it is
turned_kept : (entry v : ℕ) → Kept entry v → turned_at (row_of entry).turns (Some v) ≡ Some v
unfolding turned_at
turned_kept entry v k = by (row_of entry).turns refl where
  by : (t : Bool) → (row_of entry).turns ≡ t → Some (cond t (turned_of v) v) ≡ Some v
  by true e =
      let l : phase.least ≤ v = rw (phase-row entry e) at k.least in
      let m : v ≤ phase.most = rw (phase-row entry e) at k.most in
      ap Some (sym (turned_only v v (record { least = l; most = m; turns = refl })))
  by false e = refl

value_taken_lem : (entry v : ℕ) → Kept entry v → value_taken entry (whole (row_of entry).bias v) ≡ Some v
unfolding value_taken range_of step_of
value_taken_lem entry v k =
    let n = distance (row_of entry).bias v in
    let size = row_size entry in
    rw (taken-whole (range_of (row_of entry) n) v k.low k.high (omega arith) (omega arith) (step-least entry n)
    (distance-step entry v k.step))
    (turned_kept entry v k)

pub written_again : WrittenAgain
written_again entry v h =
    let k = kept_in entry v h in
    let size = row_size entry in
    let few = row_decimals entry in
    let q = whole (row_of entry).bias v in
    let r = read_as (row_of entry).decimals (written entry v) q
    (read_again (row_of entry).decimals (row_of entry).bias v (omega arith) (omega arith) (omega arith)) in
    record {
      number = r.number;
      value = sym (value_exact entry (written entry v)) ∙ ap (value_taken entry) r.kept ∙ value_taken_lem entry v k;
    }

pub written_apart : WrittenApart
written_apart entry v w h k e =
    let a = (written_again entry v h).value in
    let b = (written_again entry w k).value in
    cc
