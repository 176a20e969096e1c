-- What only inner functions are held to: a command's arguments by where the commas stand, each as the quantity of its
-- number, and what comes of them. Exact in `proofs` joins it to Parsed. No promise of a public call speaks of these.
use Rattle.std.specs.Prelude.{ℕ, ◌+◌, ◌-◌, ◌*◌, cond, List, [], ◌∷◌, ltb, length, Result, Ok, Err, ok_or}
use Rattle.split.specs.Divide.{span, before, after}
use Rattle.number.specs.Parts.{read_of, taken_of}
use Rattle.number.specs.declared.Quantity.{Quantity}
use Rattle.settings.specs.Limits.{capacity_least, capacity_most}
use Rattle.settings.specs.Table.{row_of}
use Rattle.settings.specs.Parts.{value_taken}
use Rattle.outcome.specs.declared.Refusal.{Refusal}
use Rattle.outcome.specs.declared.Refusal.TheVariants.{Malformed, OutOfRange}
use Rattle.mnemonic.specs.declared.Register.{Register}
use Rattle.mnemonic.specs.declared.Form.{Form}
use Rattle.command.specs.Arguments.{comma}
use Rattle.command.specs.Parsed.{Read, whole_range, bit_most, register_most, traces}
use Rattle.command.specs.declared.SetArgument.TheVariants as set
use Rattle.command.specs.declared.QueryArgument.TheVariants as query
use Rattle.command.specs.declared.Kind.TheVariants.{Set, Query}

-- a value, on which the rest goes on, or the refusal that stands in its place
infixl 10 ◌>>=◌
abbrev pub ◌>>=◌ : {A B : Type 0} → Result A Refusal → (A → Result B Refusal) → Result B Refusal
Ok v >>= k = k v
Err r >>= k = Err r

-- one argument: a number with d decimals
unfoldable pub read_one : ℕ → List ℕ → Result Quantity Refusal
read_one d s = ok_or (read_of d s) Malformed

-- two arguments: numbers with d and e decimals
unfoldable pub read_two : ℕ → ℕ → List ℕ → Result (Quantity × Quantity) Refusal
read_two d e s =
    cond (ltb (span comma s) (length s))
    (read_one d (before comma s) >>= λ a. read_one e (after comma s) >>= λ b. Ok (a, b))
    (Err Malformed)

-- three arguments: numbers with d, e and f decimals
unfoldable pub read_three : ℕ → ℕ → ℕ → List ℕ → Result (Quantity × Quantity × Quantity) Refusal
read_three d e f s =
    cond (ltb (span comma s) (length s))
    (read_one d (before comma s) >>= λ a. read_two e f (after comma s) >>= λ b. Ok (a, b.0, b.1))
    (Err Malformed)

-- a quantity as a whole-number argument from low to high
unfoldable pub whole_taken : ℕ → ℕ → Quantity → Result ℕ Refusal
whole_taken low high q = ok_or (taken_of (whole_range low high) q) OutOfRange

-- a quantity as a setting's value
unfoldable pub setting_taken : ℕ → Quantity → Result ℕ Refusal
setting_taken entry q = ok_or (value_taken entry q) OutOfRange

-- one argument: a whole number from low to high
unfoldable pub read_whole : ℕ → ℕ → List ℕ → Result ℕ Refusal
read_whole low high s = read_one 0 s >>= whole_taken low high

-- a set of a setting without channels
abbrev pub setting_read : ℕ → List ℕ → Read
setting_read entry s = do
  x ← read_one (row_of entry).decimals s
  v ← setting_taken entry x
  Ok (Set (set.Value entry v))

-- a set of one channel's setting
abbrev pub channel_read : ℕ → ℕ → List ℕ → Read
channel_read base channels s = do
  a ← read_two 0 (row_of base).decimals s
  n ← whole_taken 1 channels a.0
  v ← setting_taken base a.1
  Ok (Set (set.Value (base + (n - 1)) v))

-- a set of a channel's two settings
abbrev pub pair_read : ℕ → ℕ → List ℕ → Read
pair_read base channels s = do
  a ← read_three 0 (row_of base).decimals (row_of (base + 1)).decimals s
  n ← whole_taken 1 channels a.0
  v ← setting_taken base a.1
  w ← setting_taken (base + 1) a.2
  Ok (Set (set.Pair (base + 2 * (n - 1)) v w))

-- a set of bit i of an enable
abbrev pub bit_read : Register → List ℕ → Read
bit_read r s = do
  a ← read_two 0 0 s
  b ← whole_taken 0 bit_most a.0
  v ← whole_taken 0 1 a.1
  Ok (Set (set.EnableBit r b v))

-- a set of an enable: all of it where the text is a number, else one bit
abbrev pub enable_read : Register → List ℕ → Read
enable_read r s = by (read_one 0 s) where
  by : Result Quantity Refusal → Read
  by (Ok q) = whole_taken 0 register_most q >>= λ v. Ok (Set (set.Enable r v))
  by (Err e) = bit_read r s

-- a query of one channel's setting
abbrev pub channel_asked : ℕ → ℕ → List ℕ → Read
channel_asked base channels s = do
  n ← read_whole 1 channels s
  Ok (Query (query.Value (base + (n - 1))))

-- a query of a channel's two settings
abbrev pub pair_asked : ℕ → ℕ → List ℕ → Read
pair_asked base channels s = do
  n ← read_whole 1 channels s
  Ok (Query (query.Pair (base + 2 * (n - 1))))

-- a query of an enable: all of it where there is no argument, else one bit
abbrev pub enable_asked : Register → List ℕ → Read
enable_asked r [] = Ok (Query (query.Enable r))
enable_asked r (c ∷ cs) = do
  b ← read_whole 0 bit_most (c ∷ cs)
  Ok (Query (query.EnableBit r b))

-- a query of an event register or of the status byte: all of it where there is no argument, else one bit
abbrev pub status_asked : Register → List ℕ → Read
status_asked r [] = Ok (Query (query.Status r))
status_asked r (c ∷ cs) = do
  b ← read_whole 0 bit_most (c ∷ cs)
  Ok (Query (query.StatusBit r b))

-- a query of k points of trace i from bin j on
abbrev pub trace_asked : Form → List ℕ → Read
trace_asked form s = do
  a ← read_three 0 0 0 s
  t ← whole_taken 1 traces a.0
  b ← whole_taken 0 capacity_most a.1
  n ← whole_taken capacity_least capacity_most a.2
  Ok (Query (query.Trace form t b n))
