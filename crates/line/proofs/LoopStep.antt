-- A line on its way: which commands are left, and what a turn of the loop does. Assumes nothing.
use Prim.Native.Nat.{ℕ, ◌+◌, ◌-◌, ◌≤◌}
use mathlib.Core.Path.{◌≡◌, refl, sym, ap, ◌∙◌}
use mathlib.Core.Bool.{true, false, cond}
use mathlib.Core.List.{List, [], ◌∷◌, ◌++◌}
use native.Mathlib.Omega.{arith}
use lib.ListN.{length, take, drop, take-append-drop}
use lib.Seq.{drop-drop, length-take-le}
use Rattle.reply_buffer.specs.Buffer.{overwrite}
use Rattle.reply_buffer.proofs.Over.{over-take, over-drop}
use Rattle.line.specs.declared.Progress.{Progress}
use Rattle.state.specs.declared.State.{State}
use Rattle.line.specs.Line.{Line, after_command, run_all, start_line}
use Rattle.line.specs.Parts.{progress_of, line_reached}
use Rattle.reply_buffer.specs.After.{Meets}

-- what is left of the line does from here what the whole does from the start; the room past the bytes written is as it
-- was
pub record OnWay (texts : List (List ℕ)) (s₀ : State) (one₀ two₀ reply₀ one two reply : List ℕ) (p : Progress)
    (left : List (List ℕ)) : Type 0 where
  pub same : run_all (length reply₀) texts (start_line s₀ one₀ two₀)
      ≡ run_all (length reply₀) left (line_reached p one two reply)
  pub rest : drop p.at reply ≡ drop p.at reply₀
  pub fits : p.at ≤ length reply
  pub long : length reply ≡ length reply₀
  pub long-one : length one ≡ length one₀
  pub long-two : length two ≡ length two₀
  pub counted : p.count + length left ≤ length texts

pub at_start : (texts left : List (List ℕ)) (s : State) (one two reply : List ℕ) (p : Progress) →
    p ≡ progress_of (start_line s one two) → left ≡ texts → OnWay texts s one two reply one two reply p left
at_start texts left s one two reply p st e =
    rw (st, e)
    (record {
      same = refl;
      rest = refl;
      fits = omega arith;
      long = refl;
      long-one = refl;
      long-two = refl;
      counted = omega arith;
    })

-- tails that agree agree further on
rest_on : (x y : List ℕ) (n m : ℕ) → n ≤ m → drop n x ≡ drop n y → drop m x ≡ drop m y
rest_on x y n m h p =
    let e : n + (m - n) ≡ m = omega arith in
    ap (λ k. drop k x) (sym e) ∙ sym (drop-drop (m - n) n x) ∙ ap (drop (m - n)) p ∙ drop-drop (m - n) n y ∙ ap (λ k. drop k y) e

-- the line that the code is at is the one that it ran
line_at : (l : Line) (p : Progress) (one two new old : List ℕ) → Meets progress_of l p one two new old → line_reached p one two new ≡ l
line_at l p one two new old r = rw (r.result, r.first, r.second, r.reply, over-take l.out old)

past-written : (l : Line) (p : Progress) (one two new old : List ℕ) → Meets progress_of l p one two new old → drop p.at new ≡ drop p.at old
past-written l p one two new old r = rw (r.result, r.reply, over-drop l.out old)

-- the line that the code is at, as the code's answer, where the room past the bytes written is as it was
as_ran : (l : Line) (p : Progress) (one two new old : List ℕ) → l ≡ line_reached p one two new → p.at ≤ length new → drop p.at new ≡ drop p.at old →
    Meets progress_of l p one two new old
unfolding overwrite
as_ran l p one two new old e f g =
    let k : length (take p.at new) ≡ p.at = length-take-le p.at new f in
    rw e
    (record {
      result = rw k;
      first = refl;
      second = refl;
      reply = rw k (sym (ap (λ t. take p.at new ++ t) (sym g) ∙ take-append-drop p.at new));
    })

module _ {texts : List (List ℕ)} {one₀ two₀ reply₀ : List ℕ} {s₀ : State} {one two reply : List ℕ} {p : Progress}
    {left : List (List ℕ)} (v : OnWay texts s₀ one₀ two₀ reply₀ one two reply p left) where
  -- none is left
  pub ended : left ≡ [] →
      Meets progress_of (run_all (length reply₀) texts (start_line s₀ one₀ two₀)) p one two reply reply₀
  unfolding run_all
  ended e = as_ran _ p one two reply reply₀ (v.same ∙ rw e) v.fits v.rest

  module _ (text : List ℕ) (more_texts : List (List ℕ)) (more : left ≡ text ∷ more_texts)
      (q : Progress) (one' two' reply' : List ℕ)
      (st : Meets progress_of (after_command (length reply) text (line_reached p one two reply))
      q one' two' reply' reply)
      (on : p.at ≤ q.at) (in-room : q.at ≤ length reply') where
    turned : run_all (length reply₀) texts (start_line s₀ one₀ two₀)
        ≡ cond q.dropped (line_reached q one' two' reply')
        (run_all (length reply₀) more_texts (line_reached q one' two' reply'))
    unfolding run_all
    turned =
        let s : line_reached q one' two' reply' ≡ after_command (length reply₀) text (line_reached p one two reply) =
        line_at _ q one' two' reply' reply st ∙ rw v.long in
        v.same ∙ ap (λ cs. run_all (length reply₀) cs (line_reached p one two reply)) more ∙ rw (← s)

    gone_on : drop q.at reply' ≡ drop q.at reply₀
    gone_on = past-written _ q one' two' reply' reply st ∙ rest_on reply reply₀ p.at q.at on v.rest

    -- the rest is dropped
    pub stopped : q.dropped ≡ true →
        Meets progress_of (run_all (length reply₀) texts (start_line s₀ one₀ two₀)) q one' two' reply' reply₀
    stopped d = as_ran _ q one' two' reply' reply₀ (turned ∙ rw d) in-room gone_on

    -- it is not
    pub again : q.dropped ≡ false → length reply' ≡ length reply → length one' ≡ length one →
        length two' ≡ length two → q.count ≡ p.count + 1 →
        OnWay texts s₀ one₀ two₀ reply₀ one' two' reply' q more_texts
    again d x y z n =
        let g = v.counted in
        let m = ap length more in
        record {
          same = turned ∙ rw d;
          rest = gone_on;
          fits = in-room;
          long = x ∙ v.long;
          long-one = y ∙ v.long-one;
          long-two = z ∙ v.long-two;
          counted = omega arith;
        }
