-- What a command's text is read as where it has no "?", and where it has no ",". Assumes nothing.
use Prim.Native.Nat.{ℕ, ◌+◌, ◌≤◌, ◌<◌}
use mathlib.Core.Path.{◌≡◌, refl}
use mathlib.Core.Bool.{Bool, true, false, cond, ◌&&◌, and-eq-true_iff}
use mathlib.Core.List.{List, [], ◌∷◌}
use native.Mathlib.Omega.{arith}
use borrow.Author.Tests.{ltb-true, leb-true}
use lib.Dec.{ltb, leb, eqb}
use lib.ListN.{length, take, drop}
use Rattle.laws.proofs.Tests.{cond_by}
use Rattle.laws.proofs.Lists.{all}
use Rattle.split.specs.Divide.{on_head, parts}
use Rattle.number.specs.Number.{is_number, begins}
use Rattle.std.specs.Prelude.{Option, Some, None, Ok, Err}
use Rattle.settings.specs.Table.{entries, row_of}
use Rattle.settings.specs.Setting.{setting_of}
use Rattle.settings.specs.Valid.{value_valid}
use Rattle.settings.proofs.Invariant.{setting_keeps}
use Rattle.settings.proofs.Rows.{row_size}
use Rattle.outcome.specs.Code.{code_of}
use Rattle.outcome.specs.declared.Refusal.TheVariants.{Malformed}
use Rattle.mnemonic.specs.Names.{commands, meaning_of}
use Rattle.mnemonic.specs.declared.Meaning.{Meaning}
use Rattle.mnemonic.specs.declared.Meaning.TheVariants as meaning
use Rattle.mnemonic.proofs.Rule.{named_by, name_rule}
use Rattle.command.specs.Arguments.{question_mark, comma, arguments}
use Rattle.command.specs.Parsed.{with, one, two, three, whole_of, bit_most, register_most, alone}
use Rattle.command.specs.Parsed.{Parsed, Read, known, set_with, query_with, read_as, parsed_as, parsed_of}
use Rattle.command.specs.Parsed.{set_setting, set_channel, set_channel_pair, set_enable}
use Rattle.command.specs.Parsed.{query_channel, query_channel_pair, query_enable, query_status, query_trace}
use Rattle.command.specs.declared.SetArgument.{SetArgument}
use Rattle.command.specs.declared.SetArgument.TheVariants as set
use Rattle.command.specs.declared.QueryArgument.{QueryArgument}
use Rattle.command.specs.declared.QueryArgument.TheVariants as query
use Rattle.command.specs.declared.Kind.{Kind}
use Rattle.command.specs.declared.Kind.TheVariants.{Set, Query, Act}
use Rattle.line.specs.Parts.{has}
use Rattle.line.proofs.Bytes.{or-none, Without, without_drop}

-- a command of which Such holds, if a name and its arguments are one; else refusal 1 or 2
abbrev Reads : (Kind → Type 0) → Read → Type 0
Reads Such (Ok k) = Such k
Reads Such (Err r) = (code_of r).number ≤ 2

-- a command of which Such holds, if the text is one, or none; else refusal 1 or 2
abbrev pub Parses : (Kind → Type 0) → Parsed → Type 0
Parses Such (Ok None) = Unit {0}
Parses Such (Ok (Some c)) = Such c.kind
Parses Such (Err r) = (code_of r).number ≤ 2

-- a text that is not empty is one
parses : (Such : Kind → Type 0) (r : Read) → Reads Such r → Parses Such (parsed_as r)
parses Such (Ok k) h = h
parses Such (Err r) h = h

-- ---- arguments, each way to read them

module _ (Such : Kind → Type 0) where
  -- texts that are no numbers are refused by 1
  number-reads : (t : Bool) (p : Read) → Reads Such p → Reads Such (cond t p (Err Malformed))
  number-reads true p f = f
  number-reads false p f = omega arith

  -- one argument
  one-reads : (k : List ℕ → Read) → ((a : List ℕ) → Reads Such (k a)) → (args : List (List ℕ)) →
      Reads Such (one k args)
  unfolding one
  one-reads k f [] = omega arith
  one-reads k f (a ∷ []) = number-reads (is_number a) (k a) (f a)
  one-reads k f (a ∷ b ∷ more) = omega arith

  -- two
  two-reads : (k : List ℕ → List ℕ → Read) → ((a b : List ℕ) → Reads Such (k a b)) → (args : List (List ℕ)) →
      Reads Such (two k args)
  unfolding two
  two-reads k f [] = omega arith
  two-reads k f (a ∷ []) = omega arith
  two-reads k f (a ∷ b ∷ []) = number-reads (is_number a && is_number b) (k a b) (f a b)
  two-reads k f (a ∷ b ∷ c ∷ more) = omega arith

  -- three
  three-reads : (k : List ℕ → List ℕ → List ℕ → Read) → ((a b c : List ℕ) → Reads Such (k a b c)) →
      (args : List (List ℕ)) → Reads Such (three k args)
  unfolding three
  three-reads k f [] = omega arith
  three-reads k f (a ∷ []) = omega arith
  three-reads k f (a ∷ b ∷ []) = omega arith
  three-reads k f (a ∷ b ∷ c ∷ []) = number-reads (is_number a && (is_number b && is_number c)) (k a b c) (f a b c)
  three-reads k f (a ∷ b ∷ c ∷ d ∷ more) = omega arith

  -- an argument's value, where its range takes it
  with-reads : (a : Option ℕ) (k : ℕ → Read) → ((v : ℕ) → a ≡ Some v → Reads Such (k v)) →
      Reads Such (with a k)
  with-reads (Some v) k f = f v refl
  with-reads None k f = omega arith

  -- a name's meaning, where it is a command's
  known-reads : (o : Option Meaning) (k : Meaning → Read) → ((m : Meaning) → o ≡ Some m → Reads Such (k m)) →
      Reads Such (known o k)
  known-reads (Some m) k f = f m refl
  known-reads None k f = omega arith

  -- none
  alone-reads : (kind : Kind) → Such kind → (args : List (List ℕ)) → Reads Such (alone kind args)
  unfolding alone
  alone-reads kind h [] = h
  alone-reads kind h (a ∷ more) = omega arith

  -- a query of one whole number
  asked-reads : (low high : ℕ) (k : ℕ → Read) → ((v : ℕ) → Reads Such (k v)) → (args : List (List ℕ)) →
      Reads Such (one (λ i. with (whole_of low high i) k) args)
  asked-reads low high k f args = one-reads _ (λ i. with-reads (whole_of low high i) k (λ v e. f v)) args

-- ---- without "?"

-- a command that replies nothing
abbrev pub Silent : Kind → Type 0
Silent (Set a) = Unit {0}
Silent (Query q) = ⊥
Silent (Act a) = Unit {0}

-- a name and its arguments, read without "?"
set_silent : (m : Meaning) (args : List (List ℕ)) → Reads Silent (set_with m args)
unfolding set_with set_setting set_channel set_channel_pair set_enable
set_silent (meaning.Setting entry) args =
    one-reads Silent _ (λ x. with-reads Silent (setting_of entry x) _ (λ v e. tt)) args
set_silent (meaning.Channel base channels) args =
    two-reads Silent _
    (λ i x. with-reads Silent (whole_of 1 channels i) _ (λ n e. with-reads Silent (setting_of base x) _ (λ v f. tt))) args
set_silent (meaning.ChannelPair base channels) args =
    three-reads Silent _
    (λ i x y. with-reads Silent (whole_of 1 channels i) _
    (λ n e. with-reads Silent (setting_of base x) _
    (λ v f. with-reads Silent (setting_of (base + 1) y) _ (λ w g. tt)))) args
set_silent (meaning.Enable r) [] = omega arith
set_silent (meaning.Enable r) (v ∷ []) =
    one-reads Silent _ (λ v. with-reads Silent (whole_of 0 register_most v) _ (λ x e. tt)) (v ∷ [])
set_silent (meaning.Enable r) (i ∷ v ∷ more) =
    two-reads Silent _
    (λ i v. with-reads Silent (whole_of 0 bit_most i) _ (λ b e. with-reads Silent (whole_of 0 1 v) _ (λ x f. tt)))
    (i ∷ v ∷ more)
set_silent (meaning.Status r) args = omega arith
set_silent meaning.Identity args = omega arith
set_silent meaning.Points args = omega arith
set_silent (meaning.Trace form) args = omega arith
set_silent (meaning.Act a) args = alone-reads Silent (Act a) tt args

-- a text without a byte does not begin with it
begins-other : (b : ℕ) (s : List ℕ) → Without b s → begins b s ≡ false
unfolding begins
begins-other b [] h = refl
begins-other b (x ∷ s) h = (or-none (eqb x b) (has b s) h).0

-- a text without "?" replies nothing
pub silent_parsed : (text : List ℕ) → Without question_mark text → Parses Silent (parsed_of text)
unfolding parsed_of
silent_parsed [] h = tt
silent_parsed (b ∷ bs) h =
    let s = b ∷ bs in
    parses Silent (read_as s)
    (rw (begins-other question_mark (drop 4 s) (without_drop question_mark 4 s h))
    (cond_by (Reads Silent) (ltb (length s) 4) (λ e. omega arith)
    (λ e. known-reads Silent (meaning_of (take 4 s)) _ (λ m f. set_silent m (arguments (drop 4 s))))))

-- ---- without ","

-- a query that is no trace read
abbrev pub BriefQuery : QueryArgument → Type 0
BriefQuery (query.Value entry) = Unit {0}
BriefQuery (query.Pair entry) = Unit {0}
BriefQuery (query.Enable which) = Unit {0}
BriefQuery (query.EnableBit which i) = Unit {0}
BriefQuery (query.Status which) = Unit {0}
BriefQuery (query.StatusBit which i) = Unit {0}
BriefQuery query.Identity = Unit {0}
BriefQuery query.Points = Unit {0}
BriefQuery (query.Trace form t bin count) = ⊥

-- a set of one argument, whose value fits its field
abbrev pub BriefSet : SetArgument → Type 0
BriefSet (set.Value entry v) = v < 4294967296
BriefSet (set.Pair entry v w) = ⊥
BriefSet (set.Enable which v) = Unit {0}
BriefSet (set.EnableBit which i v) = ⊥

-- a command of at most one argument
abbrev pub Brief : Kind → Type 0
Brief (Set a) = BriefSet a
Brief (Query q) = BriefQuery q
Brief (Act a) = Unit {0}

-- a text without "," is one part
whole_part : (s : List ℕ) → Without comma s → parts comma s ≡ s ∷ []
unfolding parts on_head
whole_part [] h = refl
whole_part (x ∷ s) h = let both = or-none (eqb x comma) (has comma s) h in rw (both.0, whole_part s both.1)

-- so it is one argument at most
argument_by : (P : List (List ℕ) → Type 0) → P [] → ((a : List ℕ) → P (a ∷ [])) → (s : List ℕ) → Without comma s →
    P (arguments s)
unfolding arguments
argument_by P none one [] h = none
argument_by P none one (b ∷ bs) h = rw (whole_part (b ∷ bs) h) (one (b ∷ bs))

-- whether an entry that a name stands for is one of the table
in_table : List ℕ → Meaning → Bool
in_table name (meaning.Setting entry) = ltb entry entries
in_table name (meaning.Channel base channels) = true
in_table name (meaning.ChannelPair base channels) = true
in_table name (meaning.Enable r) = true
in_table name (meaning.Status r) = true
in_table name meaning.Identity = true
in_table name meaning.Points = true
in_table name (meaning.Trace form) = true
in_table name (meaning.Act a) = true

-- which is so of every name
all_in_table : all (named_by in_table) commands ≡ true
unfolding in_table
all_in_table = refl

-- and of what it stands for
entry_in_table : (name : List ℕ) (entry : ℕ) → meaning_of name ≡ Some (meaning.Setting entry) → entry < entries
unfolding in_table
entry_in_table name entry e =
    ltb-true entry entries (name_rule in_table all_in_table name (meaning.Setting entry) e)

-- a value that a state may keep fits its field
valid-fits : (entry v : ℕ) → value_valid entry v ≡ true → v < 4294967296
unfolding value_valid
valid-fits entry v h =
    let above = (and-eq-true_iff (leb (row_of entry).least v) _).0 h in
    let below = (and-eq-true_iff (leb v (row_of entry).most) _).0 above.1 in
    omega (arith, leb-true v (row_of entry).most below.0, row_size entry)

-- a name and one argument at most, read without "?"
set_brief : (name : List ℕ) (m : Meaning) → meaning_of name ≡ Some m → (s : List ℕ) → Without comma s →
    Reads Brief (set_with m (arguments s))
unfolding set_with set_setting set_channel set_channel_pair set_enable two three
set_brief name (meaning.Setting entry) e s h =
    one-reads Brief _
    (λ x. with-reads Brief (setting_of entry x) _
    (λ v f. valid-fits entry v (setting_keeps entry (entry_in_table name entry e) x v f))) (arguments s)
set_brief name (meaning.Channel base channels) e s h =
    argument_by (λ args. Reads Brief (set_with (meaning.Channel base channels) args)) (omega arith)
    (λ a. omega arith) s h
set_brief name (meaning.ChannelPair base channels) e s h =
    argument_by (λ args. Reads Brief (set_with (meaning.ChannelPair base channels) args)) (omega arith)
    (λ a. omega arith) s h
set_brief name (meaning.Enable r) e s h =
    argument_by (λ args. Reads Brief (set_with (meaning.Enable r) args)) (omega arith)
    (λ a. one-reads Brief _ (λ v. with-reads Brief (whole_of 0 register_most v) _ (λ x f. tt)) (a ∷ [])) s h
set_brief name (meaning.Status r) e s h = omega arith
set_brief name meaning.Identity e s h = omega arith
set_brief name meaning.Points e s h = omega arith
set_brief name (meaning.Trace form) e s h = omega arith
set_brief name (meaning.Act a) e s h = alone-reads Brief (Act a) tt (arguments s)

-- and with it
query_brief : (m : Meaning) (s : List ℕ) → Without comma s → Reads Brief (query_with m (arguments s))
unfolding query_with query_channel query_channel_pair query_enable query_status query_trace three
query_brief (meaning.Setting entry) s h = alone-reads Brief (Query (query.Value entry)) tt (arguments s)
query_brief (meaning.Channel base channels) s h = asked-reads Brief 1 channels _ (λ n. tt) (arguments s)
query_brief (meaning.ChannelPair base channels) s h = asked-reads Brief 1 channels _ (λ n. tt) (arguments s)
query_brief (meaning.Enable r) s h =
    argument_by (λ args. Reads Brief (query_with (meaning.Enable r) args)) tt
    (λ a. asked-reads Brief 0 bit_most _ (λ b. tt) (a ∷ [])) s h
query_brief (meaning.Status r) s h =
    argument_by (λ args. Reads Brief (query_with (meaning.Status r) args)) tt
    (λ a. asked-reads Brief 0 bit_most _ (λ b. tt) (a ∷ [])) s h
query_brief meaning.Identity s h = alone-reads Brief (Query query.Identity) tt (arguments s)
query_brief meaning.Points s h = alone-reads Brief (Query query.Points) tt (arguments s)
query_brief (meaning.Trace form) s h =
    argument_by (λ args. Reads Brief (query_with (meaning.Trace form) args)) (omega arith) (λ a. omega arith) s h
query_brief (meaning.Act a) s h = omega arith

-- a text without "," is a command of at most one argument
pub brief_parsed : (text : List ℕ) → Without comma text → Parses Brief (parsed_of text)
unfolding parsed_of
brief_parsed [] h = tt
brief_parsed (b ∷ bs) h =
    let s = b ∷ bs in
    parses Brief (read_as s)
    (cond_by (Reads Brief) (ltb (length s) 4) (λ e. omega arith)
    (λ e. known-reads Brief (meaning_of (take 4 s)) _ (λ m g. cond_by (Reads Brief) (begins question_mark (drop 4 s))
    (λ f. query_brief m (drop 5 s) (without_drop comma 5 s h))
    (λ f. set_brief (take 4 s) m g (drop 4 s) (without_drop comma 4 s h)))))
