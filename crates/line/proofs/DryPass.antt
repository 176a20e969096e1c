-- A line gone through on the state alone comes to what the line run comes to, whatever the traces hold. Assumes
-- nothing.
use Prim.Native.Nat.{ℕ, ◌+◌, ◌-◌, ◌≤◌}
use mathlib.Core.Path.{◌≡◌, refl, ap, ap₂, ◌∙◌}
use mathlib.Core.Bool.{true, false, cond}
use mathlib.Core.List.{List, [], ◌∷◌}
use native.Mathlib.Omega.{arith}
use lib.Dec.{ltb}
use lib.ListN.{length, length-append}
use Rattle.command.specs.Parsed.{parsed_of}
use Rattle.state.specs.declared.State.{State}
use Rattle.line.specs.declared.Progress.{Progress}
use Rattle.line.specs.Perform.{Effect, nothing, command_of}
use Rattle.line.specs.Line.{Line, after_of, after_command, run_all, start_line}
use Rattle.line.specs.Parts.{progress_after, progress_of}

-- one more command, from what it comes to, whatever the traces hold
pub dry_step : (room : ℕ) (text : List ℕ) (p q : Progress) (e : List ℕ → List ℕ → Effect) →
    ((one two : List ℕ) → e one two ≡ command_of (room - p.at) (ltb 0 p.at) (parsed_of text) p.state one two) →
    ((one two : List ℕ) → q ≡ progress_after p (e one two)) →
    (l : Line) → p ≡ progress_of l → q ≡ progress_of (after_command room text l)
unfolding after_command after_of
dry_step room text p q e did got l here =
    let result = rw here at (did l.one l.two) in
    got l.one l.two ∙ ap₂ progress_after here result ∙ rw length-append

-- one more command that is empty
pub dry-empty : (room : ℕ) (p q : Progress) → ((one two : List ℕ) → q ≡ progress_after p (nothing p.state one two)) →
    (l : Line) → p ≡ progress_of l → q ≡ progress_of (after_command room [] l)
unfolding command_of parsed_of
dry-empty room p q after l here = dry_step room [] p q (nothing p.state) (λ one two. refl) after l here

-- what is left of the line comes from here to what the whole comes to from the start
pub record OnDryWay (texts : List (List ℕ)) (room : ℕ) (s : State) (p : Progress) (left : List (List ℕ)) : Type 0 where
  pub fits : p.at ≤ room
  pub counted : p.count + length left ≤ length texts
  -- the line as far as it is run
  pub reached : List ℕ → List ℕ → Line
  pub here : (one two : List ℕ) → p ≡ progress_of (reached one two)
  pub same : (one two : List ℕ) → run_all room texts (start_line s one two) ≡ run_all room left (reached one two)

pub dry_start : (texts left : List (List ℕ)) (room : ℕ) (s : State) (p : Progress) →
    ((one two : List ℕ) → p ≡ progress_of (start_line s one two)) → left ≡ texts → OnDryWay texts room s p left
dry_start texts left room s p st e =
    rw e
    (record {
      fits = omega (arith, ap (λ p. p.at) (st [] []));
      counted = omega (arith, ap (λ p. p.count) (st [] []));
      reached = start_line s;
      here = st;
      same = λ one two. refl;
    })

module _ {texts : List (List ℕ)} {room : ℕ} {s : State} {p : Progress} {left : List (List ℕ)}
    (v : OnDryWay texts room s p left) where
  -- none is left
  pub dry_ended : left ≡ [] → (one two : List ℕ) → p ≡ progress_of (run_all room texts (start_line s one two))
  unfolding run_all
  dry_ended e one two =
      let whole : run_all room texts (start_line s one two) ≡ v.reached one two = v.same one two ∙ rw e in
      rw whole (v.here one two)

  module _ (text : List ℕ) (rest : List (List ℕ)) (more : left ≡ text ∷ rest) (q : Progress)
      (st : (l : Line) → p ≡ progress_of l → q ≡ progress_of (after_command room text l)) where
    -- the line after one more command
    abbrev next : List ℕ → List ℕ → Line
    next one two = after_command room text (v.reached one two)

    turned : (one two : List ℕ) → run_all room texts (start_line s one two)
        ≡ cond q.dropped (next one two) (run_all room rest (next one two))
    unfolding run_all
    turned one two =
        let drops : q.dropped ≡ (next one two).report.dropped =
        ap (λ x. x.dropped) (st (v.reached one two) (v.here one two)) in
        v.same one two ∙ ap (λ cs. run_all room cs (v.reached one two)) more ∙ rw drops

    -- the rest is dropped
    pub dry_stopped : q.dropped ≡ true → (one two : List ℕ) →
        q ≡ progress_of (run_all room texts (start_line s one two))
    dry_stopped d one two =
        let whole : run_all room texts (start_line s one two) ≡ next one two = turned one two ∙ rw d in
        rw whole (st (v.reached one two) (v.here one two))

    -- it is not
    pub dry_again : q.dropped ≡ false → q.at ≤ room → q.count ≡ p.count + 1 → OnDryWay texts room s q rest
    dry_again d f n =
        let g = v.counted in
        let m = ap length more in
        record {
          fits = f;
          counted = omega arith;
          reached = next;
          here = λ one two. st (v.reached one two) (v.here one two);
          same = λ one two. turned one two ∙ rw d;
        }
