-- What the programs hold in memory is enough: they say of it what §14.1, §14.2 and §14.3 say of the whole input.
use Rattle.std.specs.Prelude.{ℕ, ◌<◌, ◌≡◌, List, ◌++◌, length, take}
use Rattle.verdict.specs.Verdict.{Verdict}
use Rattle.check_input.specs.VerdictLine.{verdict_text}
use Rattle.check_input.specs.Input.{script_limit, limited_check, input_verdict, check_output}
use Rattle.check_input.specs.Bytes.{Memory, memory, start_input, after_bytes}

-- §14.2: the verdict on what is in memory
abbrev pub verdict_from : Memory → Verdict
verdict_from h = limited_check h.input.capacity (take h.input.len h.script)

-- §14.1 and §14.2: the claim: what is in memory after an input gives the verdict on that input
pub record Whole : Type 0 where
  -- however the input comes in pieces
  pub pieces : (first second : List ℕ) (h : Memory) →
      after_bytes (first ++ second) h ≡ after_bytes second (after_bytes first h)
  -- whatever stood in the lent bytes
  pub verdict_numbers : (input lent : List ℕ) → script_limit < length lent →
      verdict_from (after_bytes input (memory start_input lent)) ≡ input_verdict input

-- what is read: some bytes, and the memory after them. Which bytes standard input gives no contract can say
pub record Reads (first after : Memory) : Type 0 where
  pub bytes : List ℕ
  pub stored : after ≡ after_bytes bytes first

-- §14.3: what the check program writes of what is in memory
pub record Outputs (h : Memory) (text : List ℕ) : Type 0 where
  pub kept : text ≡ verdict_text (verdict_from h)
  -- §14.1, §14.2 and §14.3: for every input after which this is in memory, whatever stood in the lent bytes: the output
  -- that the whole input is to have
  pub whole : (input lent : List ℕ) → script_limit < length lent → h ≡ after_bytes input (memory start_input lent) →
      text ≡ check_output input

-- §14.3: the whole program: what it writes is the output of some input, the one that was read
pub record OutputOfSome (text : List ℕ) : Type 0 where
  pub input : List ℕ
  pub says : text ≡ check_output input
