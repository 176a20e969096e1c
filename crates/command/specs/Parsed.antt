-- What a command's text is read as: a command (§3.1, §3.3, §3.4, §3.5, §5.4, §8.1), or refusal 1 (§3.6) or 2 (§3.7).
use Rattle.std.specs.Prelude.{ℕ, ◌+◌, ◌-◌, ◌*◌, true, cond, ◌&&◌, List, [], ◌∷◌, ltb, length, take, drop}
use Rattle.std.specs.Prelude.{Option, Some, None, Result, Ok, Err}
use Rattle.number.specs.Number.{is_number, begins}
use Rattle.number.specs.Value.{exact_of, argument_of}
use Rattle.number.specs.declared.Range.{Range}
use Rattle.settings.specs.Limits.{capacity_least, capacity_most}
use Rattle.settings.specs.Setting.{setting_of}
use Rattle.outcome.specs.declared.Refusal.{Refusal}
use Rattle.outcome.specs.declared.Refusal.TheVariants.{Malformed, OutOfRange}
use Rattle.mnemonic.specs.Names.{meaning_of}
use Rattle.mnemonic.specs.declared.Register.{Register}
use Rattle.mnemonic.specs.declared.Form.{Form}
use Rattle.mnemonic.specs.declared.Meaning.{Meaning}
use Rattle.mnemonic.specs.declared.Meaning.TheVariants as meaning
use Rattle.command.specs.Arguments.{question_mark, arguments}
use Rattle.command.specs.declared.SetArgument.TheVariants as set
use Rattle.command.specs.declared.QueryArgument.TheVariants as query
use Rattle.command.specs.declared.Kind.{Kind}
use Rattle.command.specs.declared.Kind.TheVariants.{Set, Query, Act}
use Rattle.command.specs.declared.Command.{Command}

-- what a command's text is read as: a command, or none where the text is empty (§2.6); or refusal 1 or 2
abbrev pub Parsed : Type 0
Parsed = Result (Option Command) Refusal

-- what a name and its arguments are read as: a command of this kind, or refusal 1 or 2
abbrev pub Read : Type 0
Read = Result Kind Refusal

-- a text read as a command of this kind
abbrev pub taken : Kind → Parsed
taken k = Ok (Some (record { kind = k }))

-- a text read as its name and its arguments are
abbrev pub parsed_as : Read → Parsed
parsed_as (Ok k) = taken k
parsed_as (Err r) = Err r

-- §3.6: refusal 1: no such name, the name in another form, another number of arguments, or one that is no number
abbrev pub malformed : Read
malformed = Err Malformed

-- §3.6: what a name stands for, on which the rest goes on; refusal 1 where it is no command's
abbrev pub known : Option Meaning → (Meaning → Read) → Read
known (Some m) k = k m
known None k = malformed

-- §3.7: an argument's value, on which the rest goes on; refusal 2 where the range does not take it
abbrev pub with : Option ℕ → (ℕ → Read) → Read
with (Some v) k = k v
with None k = Err OutOfRange

-- §3.6: exactly one argument, a number's text, on which the rest goes on
unfoldable pub one : (List ℕ → Read) → List (List ℕ) → Read
one k [] = malformed
one k (a ∷ []) = cond (is_number a) (k a) malformed
one k (a ∷ b ∷ more) = malformed

-- §3.6 and §3.7: exactly two arguments, each a number's text; only then are their values looked at, left to right
unfoldable pub two : (List ℕ → List ℕ → Read) → List (List ℕ) → Read
two k [] = malformed
two k (a ∷ []) = malformed
two k (a ∷ b ∷ []) = cond (is_number a && is_number b) (k a b) malformed
two k (a ∷ b ∷ c ∷ more) = malformed

-- §3.6 and §3.7: exactly three arguments, likewise
unfoldable pub three : (List ℕ → List ℕ → List ℕ → Read) → List (List ℕ) → Read
three k [] = malformed
three k (a ∷ []) = malformed
three k (a ∷ b ∷ []) = malformed
three k (a ∷ b ∷ c ∷ []) = cond (is_number a && (is_number b && is_number c)) (k a b c) malformed
three k (a ∷ b ∷ c ∷ d ∷ more) = malformed

-- §4.5: the range of an argument that is to be a whole number: 5.0 is whole, 5.4 is refused
abbrev pub whole_range : ℕ → ℕ → Range
whole_range low high = record { bias = 0; low = low; high = high; step = 1; whole = true }

-- §4.5: a number's text as an argument that is to be whole, from low to high
abbrev pub whole_of : ℕ → ℕ → List ℕ → Option ℕ
whole_of low high a = argument_of (whole_range low high) (exact_of 0 a)

-- §3.5: the number of a register's highest bit
abbrev pub bit_most : ℕ
bit_most = 7

-- §3.5: the highest value of a register, all eight bits set
abbrev pub register_most : ℕ
register_most = 0xFF

-- §8.1: how many traces there are
abbrev pub traces : ℕ
traces = 2

-- §3.3: a setting without channels, as PHAS x or FMOD i
unfoldable pub set_setting : ℕ → List (List ℕ) → Read
set_setting entry = one λ x. with (setting_of entry x) λ v. Ok (Set (set.Value entry v))

-- §3.3 and §5.4: one channel's setting, as FPOP i,j or AUXV i,x: i is the channel
unfoldable pub set_channel : ℕ → ℕ → List (List ℕ) → Read
set_channel base channels =
    two λ i x. with (whole_of 1 channels i) λ n. with (setting_of base x) λ v.
    Ok (Set (set.Value (base + (n - 1)) v))

-- §3.3 and §5.4: a channel's two settings, DDEF i,j,k and OEXP i,x,j: i is the channel
unfoldable pub set_channel_pair : ℕ → ℕ → List (List ℕ) → Read
set_channel_pair base channels =
    three λ i x y. with (whole_of 1 channels i) λ n.
    with (setting_of base x) λ v. with (setting_of (base + 1) y) λ w. Ok (Set (set.Pair (base + 2 * (n - 1)) v w))

-- §3.5: an enable, *ESE, *SRE, LIAE or ERRE: its value from 0 to 255, or a bit from 0 to 7 and what that becomes
unfoldable pub set_enable : Register → List (List ℕ) → Read
set_enable r [] = malformed
set_enable r (v ∷ []) = one (λ v. with (whole_of 0 register_most v) λ x. Ok (Set (set.Enable r x))) (v ∷ [])
set_enable r (i ∷ v ∷ more) =
    two (λ i v. with (whole_of 0 bit_most i) λ b. with (whole_of 0 1 v) λ x. Ok (Set (set.EnableBit r b x)))
    (i ∷ v ∷ more)

-- §3.3 and §5.4: the query of one channel's setting: the channel is its only argument
unfoldable pub query_channel : ℕ → ℕ → List (List ℕ) → Read
query_channel base channels = one λ i. with (whole_of 1 channels i) λ n. Ok (Query (query.Value (base + (n - 1))))

-- §3.3 and §5.4: the query of a channel's two settings: the channel is its only argument
unfoldable pub query_channel_pair : ℕ → ℕ → List (List ℕ) → Read
query_channel_pair base channels =
    one λ i. with (whole_of 1 channels i) λ n. Ok (Query (query.Pair (base + 2 * (n - 1))))

-- §3.5: the query of an enable: all of it, or one bit
unfoldable pub query_enable : Register → List (List ℕ) → Read
query_enable r [] = Ok (Query (query.Enable r))
query_enable r (i ∷ more) = one (λ i. with (whole_of 0 bit_most i) λ b. Ok (Query (query.EnableBit r b))) (i ∷ more)

-- §3.5: the query of an event register or of the status byte: all of it, or one bit
unfoldable pub query_status : Register → List (List ℕ) → Read
query_status r [] = Ok (Query (query.Status r))
query_status r (i ∷ more) = one (λ i. with (whole_of 0 bit_most i) λ b. Ok (Query (query.StatusBit r b))) (i ∷ more)

-- §8.1: TRCL? i,j,k and TRCB? i,j,k: trace, first bin, count of points
unfoldable pub query_trace : Form → List (List ℕ) → Read
query_trace form =
    three λ i j k. with (whole_of 1 traces i) λ t. with (whole_of 0 capacity_most j) λ b.
    with (whole_of capacity_least capacity_most k) λ n. Ok (Query (query.Trace form t b n))

-- §3.4: a command that takes no argument
unfoldable pub alone : Kind → List (List ℕ) → Read
alone k [] = Ok k
alone k (a ∷ more) = malformed

-- §3.3, §3.4, §3.5 and §3.6: a name and its arguments, without "?": what has a query alone is refused
unfoldable pub set_with : Meaning → List (List ℕ) → Read
set_with (meaning.Setting entry) args = set_setting entry args
set_with (meaning.Channel base channels) args = set_channel base channels args
set_with (meaning.ChannelPair base channels) args = set_channel_pair base channels args
set_with (meaning.Enable r) args = set_enable r args
set_with (meaning.Status r) args = malformed
set_with meaning.Identity args = malformed
set_with meaning.Points args = malformed
set_with (meaning.Trace form) args = malformed
set_with (meaning.Act a) args = alone (Act a) args

-- §3.3, §3.4, §3.5 and §3.6: a name and its arguments, with "?": an action, which has no query, is refused
unfoldable pub query_with : Meaning → List (List ℕ) → Read
query_with (meaning.Setting entry) args = alone (Query (query.Value entry)) args
query_with (meaning.Channel base channels) args = query_channel base channels args
query_with (meaning.ChannelPair base channels) args = query_channel_pair base channels args
query_with (meaning.Enable r) args = query_enable r args
query_with (meaning.Status r) args = query_status r args
query_with meaning.Identity args = alone (Query query.Identity) args
query_with meaning.Points args = alone (Query query.Points) args
query_with (meaning.Trace form) args = query_trace form args
query_with (meaning.Act a) args = malformed

-- §3.1: a command that is not empty: a name of four bytes, "?" for a query, and arguments
abbrev pub read_as : List ℕ → Read
read_as s =
    cond (ltb (length s) 4) malformed
    (known (meaning_of (take 4 s)) λ m.
    cond (begins question_mark (drop 4 s)) (query_with m (arguments (drop 5 s))) (set_with m (arguments (drop 4 s))))

-- §3.1: one command, its spaces left out and its letters made capitals; an empty one does nothing (§2.6)
unfoldable pub parsed_of : List ℕ → Parsed
parsed_of [] = Ok None
parsed_of (b ∷ bs) = parsed_as (read_as (b ∷ bs))
