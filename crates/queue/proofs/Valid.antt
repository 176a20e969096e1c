-- What it means that a state may hold a queue: the test as facts, and back. Assumes nothing.
use Prim.Native.Nat.{ℕ, ◌≤◌, ◌<◌}
use mathlib.Core.Path.{◌≡◌}
use mathlib.Core.Bool.{true, false, and-eq-true_iff, and-true, and-false}
use lib.Dec.{leb, eqb}
use borrow.Author.Tests.{leb-true, eqb-true, le-leb, lt-leb, eq-eqb}
use Rattle.laws.proofs.Tests.{split}
use Rattle.queue.specs.declared.Queue.{Queue}
use Rattle.queue.specs.Queue.{line_limit, waiting_bytes, no_end, is_valid}

pub record Kept (q : Queue) (port : ℕ) : Type 0 where
  pub fits : q.len ≤ line_limit
  pub none : q.discarding ≡ true → q.len ≡ 0
  pub plain : no_end port (waiting_bytes q) ≡ true

module _ (q : Queue) (port : ℕ) where
  pub facts : is_valid q port ≡ true → Kept q port
  unfolding is_valid
  facts k =
      let parts = (and-eq-true_iff _ _).0 k in
      let first = (and-eq-true_iff _ _).0 parts.0 in
      record {
        fits = leb-true _ _ first.0;
        none = λ d. eqb-true _ _ (rw d at first.1);
        plain = parts.1;
      }

  pub test : Kept q port → is_valid q port ≡ true
  unfolding is_valid
  test k =
      rw (le-leb q.len line_limit k.fits, k.plain, and-true)
      (split q.discarding (λ d. rw (d, eq-eqb q.len 0 (k.none d))) (λ d. rw d))

  -- the test, case by case
  pub keeps_long : line_limit < q.len → is_valid q port ≡ false
  unfolding is_valid
  keeps_long h = rw (lt-leb q.len line_limit h)

  pub keeps_discarding : q.discarding ≡ true → is_valid q port ≡ eqb q.len 0
  unfolding is_valid no_end
  keeps_discarding d =
      rw d (split (eqb q.len 0) (λ e. rw (eqb-true q.len 0 e)) (λ e. rw (e, and-false (leb q.len line_limit))))

  pub keeps_waiting : q.len ≤ line_limit → q.discarding ≡ false → is_valid q port ≡ no_end port (waiting_bytes q)
  unfolding is_valid
  keeps_waiting h d = rw (le-leb q.len line_limit h, d)
