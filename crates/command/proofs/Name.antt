-- A command's name, its first four bytes, and what follows it. Assumes nothing.
use Prim.Native.Nat.{ℕ, ◌+◌, ◌<◌, ◌≤◌}
use mathlib.Core.Path.{◌≡◌, ap, ◌∙◌}
use mathlib.Core.Bool.{Bool, true, false}
use mathlib.Core.List.{List, [], ◌∷◌}
use native.Mathlib.Omega.{arith}
use lib.Dec.{T, ltb, eqb}
use lib.ListN.{length, take, drop, get_or}
use lib.Seq.{drop-drop}
use lib.Pointwise.{pointwise}
use Rattle.laws.proofs.Tests.{split}
use borrow.Author.Tests.{lt-ltb, le-ltb}
use Rattle.std.specs.Prelude.{Option, Some, None}
use Rattle.std.specs.Int.{w32, from_be_bytes}
use Rattle.number.specs.Number.{begins}
use Rattle.mnemonic.specs.Names.{meaning_of}
use Rattle.mnemonic.specs.Parts.{word, found_of}
use Rattle.mnemonic.specs.Words.{is_four}
use Rattle.mnemonic.proofs.Words.{found_word}
use Rattle.mnemonic.specs.declared.Meaning.{Meaning}
use Rattle.command.specs.Arguments.{arguments}
use Rattle.command.specs.Parsed.{malformed, set_with, query_with, read_as}

-- four bytes as one number
four_word : (s : List ℕ) → 4 ≤ length s → from_be_bytes w32 (take 4 s) ≡ word (take 4 s)
four_word [] h = absurd (omega arith)
four_word (a ∷ []) h = absurd (omega arith)
four_word (a ∷ b ∷ []) h = absurd (omega arith)
four_word (a ∷ b ∷ c ∷ []) h = absurd (omega arith)
four_word (a ∷ b ∷ c ∷ d ∷ s) h = omega arith

-- a byte is below 256
four_bytes : (s : List ℕ) → 4 ≤ length s → ((i : ℕ) → get_or s i 0 < 256) → T (is_four (take 4 s))
four_bytes [] h f = absurd (omega arith)
four_bytes (a ∷ []) h f = absurd (omega arith)
four_bytes (a ∷ b ∷ []) h f = absurd (omega arith)
four_bytes (a ∷ b ∷ c ∷ []) h f = absurd (omega arith)
four_bytes (a ∷ b ∷ c ∷ d ∷ s) h f =
    rw (lt-ltb a 256 (f 0), lt-ltb b 256 (f 1), lt-ltb c 256 (f 2), lt-ltb d 256 (f 3)) tt

-- a text begins with a byte if its first byte is that one
first_byte : (s : List ℕ) (t : Bool) → pointwise eqb (take 1 s) (63 ∷ []) ≡ t → begins 63 s ≡ t
unfolding begins
first_byte [] t e = e
first_byte (b ∷ bs) t e = split (eqb b 63) (λ f. rw f (rw f at e)) (λ f. rw f (rw f at e))

-- the name and what follows it, where what was found is what the name's bytes as one number stand for
module _ (s name rest : List ℕ) (f : (i : ℕ) → get_or s i 0 < 256) (o : Option Meaning)
    (found : o ≡ found_of (from_be_bytes w32 name))
    (parts : (name ≡ take 4 s) × (rest ≡ drop 4 s) × (length rest + 4 ≡ length s)) where
  meaning_is : o ≡ meaning_of (take 4 s)
  meaning_is =
      let h : 4 ≤ length s = omega (arith, parts.2) in
      found ∙ rw (parts.0, four_word s h) (found_word (take 4 s) (four_bytes s h f))

  long : ltb (length s) 4 ≡ false
  long = le-ltb (length s) 4 (omega (arith, parts.2))

  pub no_name : o ≡ None → malformed ≡ read_as s
  no_name e = rw (long, ← meaning_is, e)

  module _ (m : Meaning) (e : o ≡ Some m) where
    pub query_name : pointwise eqb (take 1 rest) (63 ∷ []) ≡ true → query_with m (arguments (drop 1 rest)) ≡ read_as s
    query_name b =
        rw (long, ← meaning_is, e, ← parts.1, first_byte rest true b)
        (ap (λ t. query_with m (arguments t)) (rw parts.1 (drop-drop 1 4 s)))

    pub set_name : pointwise eqb (take 1 rest) (63 ∷ []) ≡ false → set_with m (arguments rest) ≡ read_as s
    set_name b = rw (long, ← meaning_is, e, ← parts.1, first_byte rest false b)
