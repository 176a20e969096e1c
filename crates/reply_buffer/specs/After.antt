-- What a command, a line, a byte or an event leaves, and when the code's result is that: §1.1. Each is lent two traces
-- and room for its reply; what stays there as it was is said too.
use Rattle.std.specs.Prelude.{ℕ, ◌≡◌, List, []}
use Rattle.reply_buffer.specs.Buffer.{overwrite}

-- §1.1: what a step leaves on a state or a module S, where it reports an R
pub record After (S R : Type 0) : Type 0 where
  -- the state or the module after it
  pub after : S
  -- the two traces
  pub one : List ℕ
  pub two : List ℕ
  -- the reply bytes
  pub out : List ℕ
  pub report : R

-- §1.1: a step that writes to no trace and replies nothing
abbrev pub silent : {S R : Type 0} → R → S → List ℕ → List ℕ → After S R
silent report s one two = record { after = s; one = one; two = two; out = []; report = report }

-- §1.1: the code's result r, the traces `one` and `two` and the reply room `new` are those of the step: r is what the
-- code's struct shows of it; the room was `old` before, and past the reply bytes it keeps what stood there. A step that
-- is lent no reply room has an empty one.
pub record Meets {S R G : Type 0} (shows : After S R → G) (step : After S R) (r : G) (one two new old : List ℕ) : Type 0
  where
    pub result : r ≡ shows step
    pub first : one ≡ step.one
    pub second : two ≡ step.two
    pub reply : new ≡ overwrite step.out old
