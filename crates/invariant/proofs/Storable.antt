-- What a command's text is read as may be kept by a state, and is else refused by 1 or 2. Assumes nothing.
use Prim.Native.Nat.{ℕ, ◌+◌, ◌-◌, ◌*◌, ◌≤◌, ◌<◌}
use native.Mathlib.Omega.{arith}
use native.Mathlib.Nat.{mod-one}
use mathlib.Core.Path.{◌≡◌, refl}
use mathlib.Core.Bool.{Bool, true, false, cond, ◌&&◌}
use mathlib.Core.List.{List, [], ◌∷◌}
use lib.Dec.{ltb}
use lib.ListN.{length, take, drop}
use Rattle.laws.proofs.Tests.{cond_by}
use Rattle.number.specs.Number.{is_number, begins}
use Rattle.number.specs.Value.{exact_of}
use Rattle.std.specs.Prelude.{Option, Some, None, Ok, Err}
use Rattle.number.proofs.Exact.{under_pos}
use Rattle.settings.specs.Table.{entries, oflt, send, next_entry}
use Rattle.settings.specs.Setting.{setting_of}
use Rattle.settings.specs.Valid.{value_valid}
use Rattle.settings.proofs.Values.{next_is}
use Rattle.settings.proofs.Invariant.{setting_keeps}
use Rattle.settings.proofs.Rounded.{Inside, taken_inside}
use Rattle.outcome.specs.Code as refusals
use Rattle.outcome.specs.declared.Refusal.TheVariants.{Malformed}
use Rattle.mnemonic.specs.Names.{meaning_of}
use Rattle.mnemonic.specs.declared.Register.{Register}
use Rattle.mnemonic.specs.declared.Meaning.{Meaning}
use Rattle.mnemonic.specs.declared.Meaning.TheVariants as meaning
use Rattle.command.specs.Arguments.{arguments}
use Rattle.command.specs.Parsed.{Parsed, Read, known, with, one, two, three, whole_range, whole_of, alone}
use Rattle.command.specs.Parsed.{set_with, query_with, read_as, parsed_as, parsed_of}
use Rattle.command.specs.Parsed.{set_setting, set_channel, set_channel_pair, set_enable}
use Rattle.command.specs.Parsed.{query_channel, query_channel_pair, query_enable, query_status, query_trace}
use Rattle.command.specs.declared.SetArgument.{SetArgument}
use Rattle.command.specs.declared.SetArgument.TheVariants as set
use Rattle.command.specs.declared.QueryArgument.TheVariants as query
use Rattle.command.specs.declared.Kind.{Kind}
use Rattle.command.specs.declared.Kind.TheVariants.{Set, Query, Act}
use Rattle.invariant.proofs.Meanings.{alike_keeps, name_of_one, name_of_channel, name_of_pair}

-- the entries between OFLT and SEND, where those of settings with channels lie: no rule binds them
abbrev pub channel_low : ℕ
channel_low = oflt + 1

abbrev pub channel_high : ℕ
channel_high = send - 1

-- a pair's values may be kept, at entries with channels
pub record StorablePair (entry v w : ℕ) : Type 0 where
  pub first : value_valid entry v ≡ true
  pub second : value_valid (next_entry entry) w ≡ true
  pub low : channel_low ≤ entry
  pub high : next_entry entry ≤ channel_high
  pub after : next_entry entry ≡ entry + 1

-- the values that a command sets may be kept
abbrev pub StorableSet : SetArgument → Type 0
StorableSet (set.Value entry v) = value_valid entry v ≡ true
StorableSet (set.Pair entry v w) = StorablePair entry v w
StorableSet (set.Enable r v) = Unit
StorableSet (set.EnableBit r i v) = Unit

abbrev pub Storable : Kind → Type 0
Storable (Set a) = StorableSet a
Storable (Query q) = Unit
Storable (Act a) = Unit

-- what a name and its arguments are read as may be kept, or is refused by 1 or 2
abbrev StorableRead : Read → Type 0
StorableRead (Ok k) = Storable k
StorableRead (Err r) = (refusals.code_of r).number ≤ 2

-- and what a text is read as
abbrev pub StorableParsed : Parsed → Type 0
StorableParsed (Ok None) = Unit
StorableParsed (Ok (Some c)) = Storable c.kind
StorableParsed (Err r) = (refusals.code_of r).number ≤ 2

read_storable : (r : Read) → StorableRead r → StorableParsed (parsed_as r)
read_storable (Ok k) h = h
read_storable (Err r) h = h

-- ---- arguments

-- texts that are no numbers are refused by 1
numbers_storable : (t : Bool) (p : Read) → StorableRead p → StorableRead (cond t p (Err Malformed))
numbers_storable true p f = f
numbers_storable false p f = omega arith

one_storable : (k : List ℕ → Read) → ((a : List ℕ) → StorableRead (k a)) → (args : List (List ℕ)) → StorableRead (one k args)
unfolding one
one_storable k f [] = omega arith
one_storable k f (a ∷ []) = numbers_storable (is_number a) _ (f a)
one_storable k f (a ∷ b ∷ more) = omega arith

two_storable : (k : List ℕ → List ℕ → Read) → ((a b : List ℕ) → StorableRead (k a b)) →
    (args : List (List ℕ)) → StorableRead (two k args)
unfolding two
two_storable k f [] = omega arith
two_storable k f (a ∷ []) = omega arith
two_storable k f (a ∷ b ∷ []) = numbers_storable (is_number a && is_number b) _ (f a b)
two_storable k f (a ∷ b ∷ c ∷ more) = omega arith

three_storable : (k : List ℕ → List ℕ → List ℕ → Read) → ((a b c : List ℕ) → StorableRead (k a b c)) →
    (args : List (List ℕ)) → StorableRead (three k args)
unfolding three
three_storable k f [] = omega arith
three_storable k f (a ∷ []) = omega arith
three_storable k f (a ∷ b ∷ []) = omega arith
three_storable k f (a ∷ b ∷ c ∷ []) = numbers_storable (is_number a && (is_number b && is_number c)) _ (f a b c)
three_storable k f (a ∷ b ∷ c ∷ d ∷ more) = omega arith

-- a number out of its range is refused by 2
with_storable : (a : Option ℕ) (k : ℕ → Read) → ((v : ℕ) → a ≡ Some v → StorableRead (k v)) →
    StorableRead (with a k)
with_storable (Some v) k f = f v refl
with_storable None k f = omega arith

-- a value of whole range lies in it
whole_inside : (low high : ℕ) (a : List ℕ) (x : ℕ) → whole_of low high a ≡ Some x →
    Inside (whole_range low high) x
whole_inside low high a x e =
    taken_inside (whole_range low high) (exact_of 0 a) (under_pos 0 a)
    (record { step = omega arith; bias = mod-one 0; low = mod-one low; high = mod-one high; order = omega arith }) x e

-- ---- what a name and its arguments are read as

setting_storable : (entry : ℕ) (args : List (List ℕ)) → entry < entries → StorableRead (set_setting entry args)
unfolding set_setting
setting_storable entry args h = one_storable _ (λ x. with_storable (setting_of entry x) _ (setting_keeps entry h x)) args

module _ (name : List ℕ) (base channels : ℕ) (args : List (List ℕ)) where
  channel_storable : meaning_of name ≡ Some (meaning.Channel base channels) → StorableRead (set_channel base channels args)
  unfolding set_channel
  channel_storable e =
      two_storable _
      (λ i x. with_storable (whole_of 1 channels i) _ λ n p. with_storable (setting_of base x) _ λ v q.
      let inside = whole_inside 1 channels i n p in
      let a = (name_of_channel name base channels n (omega arith) (omega arith) e).2 in
      rw (alike_keeps a v) (setting_keeps base (omega arith) x v q))
      args

  pair_storable : meaning_of name ≡ Some (meaning.ChannelPair base channels) → StorableRead (set_channel_pair base channels args)
  unfolding set_channel_pair
  pair_storable e =
      three_storable _
      (λ i x y. with_storable (whole_of 1 channels i) _ λ n p.
      with_storable (setting_of base x) _ λ v q. with_storable (setting_of (base + 1) y) _ λ w r.
      let inside = whole_inside 1 channels i n p in
      let pair = name_of_pair name base channels n (omega arith) (omega arith) e in
      let a = pair.2 in
      let b = pair.3 in
      let z = next_is (base + 2 * (n - 1)) a.inside in
      record {
        first = rw (alike_keeps a v) (setting_keeps base (omega arith) x v q);
        second = rw (z, alike_keeps b w) (setting_keeps (base + 1) (omega arith) y w r);
        low = omega arith;
        high = rw z (omega arith);
        after = z;
      })
      args

enable_storable : (r : Register) (args : List (List ℕ)) → StorableRead (set_enable r args)
unfolding set_enable
enable_storable r [] = omega arith
enable_storable r (v ∷ []) = one_storable _ (λ v. with_storable (whole_of 0 255 v) _ λ x p. tt) (v ∷ [])
enable_storable r (i ∷ v ∷ more) =
    two_storable _ (λ i v. with_storable (whole_of 0 7 i) _ λ b p. with_storable (whole_of 0 1 v) _ λ x q. tt) (i ∷ v ∷ more)

alone_storable : (k : Kind) → Storable k → (args : List (List ℕ)) → StorableRead (alone k args)
unfolding alone
alone_storable k h [] = h
alone_storable k h (a ∷ more) = omega arith

-- one whole number, which a query is read from
asked_storable : (low high : ℕ) (k : ℕ → Read) → ((v : ℕ) → StorableRead (k v)) → (args : List (List ℕ))
    → StorableRead (one (λ i. with (whole_of low high i) k) args)
asked_storable low high k f args = one_storable _ (λ i. with_storable (whole_of low high i) _ λ v p. f v) args

query_storable : (m : Meaning) (args : List (List ℕ)) → StorableRead (query_with m args)
unfolding query_with query_channel query_channel_pair query_enable query_status query_trace
query_storable (meaning.Setting entry) args = alone_storable (Query (query.Value entry)) tt args
query_storable (meaning.Channel base channels) args = asked_storable 1 channels _ (λ n. tt) args
query_storable (meaning.ChannelPair base channels) args = asked_storable 1 channels _ (λ n. tt) args
query_storable (meaning.Enable r) [] = tt
query_storable (meaning.Enable r) (i ∷ more) = asked_storable 0 7 _ (λ b. tt) (i ∷ more)
query_storable (meaning.Status r) [] = tt
query_storable (meaning.Status r) (i ∷ more) = asked_storable 0 7 _ (λ b. tt) (i ∷ more)
query_storable meaning.Identity args = alone_storable (Query query.Identity) tt args
query_storable meaning.Points args = alone_storable (Query query.Points) tt args
query_storable (meaning.Trace form) args =
    three_storable _
    (λ i j k. with_storable (whole_of 1 2 i) _ λ t p.
    with_storable (whole_of 0 16383 j) _ λ b q. with_storable (whole_of 1 16383 k) _ λ n r. tt)
    args
query_storable (meaning.Act a) args = omega arith

set_storable : (name : List ℕ) (m : Meaning) (args : List (List ℕ)) → meaning_of name ≡ Some m → StorableRead (set_with m args)
unfolding set_with
set_storable name (meaning.Setting entry) args e = setting_storable entry args (name_of_one name entry e).1
set_storable name (meaning.Channel base channels) args e = channel_storable name base channels args e
set_storable name (meaning.ChannelPair base channels) args e = pair_storable name base channels args e
set_storable name (meaning.Enable r) args e = enable_storable r args
set_storable name (meaning.Status r) args e = omega arith
set_storable name meaning.Identity args e = omega arith
set_storable name meaning.Points args e = omega arith
set_storable name (meaning.Trace form) args e = omega arith
set_storable name (meaning.Act a) args e = alone_storable (Act a) tt args

-- a name, where it is a command's
known_storable : (o : Option Meaning) (k : Meaning → Read) → ((m : Meaning) → o ≡ Some m → StorableRead (k m)) →
    StorableRead (known o k)
known_storable (Some m) k f = f m refl
known_storable None k f = omega arith

-- a command's text
pub parsed_storable : (text : List ℕ) → StorableParsed (parsed_of text)
unfolding parsed_of
parsed_storable [] = tt
parsed_storable (b ∷ bs) =
    let s = b ∷ bs in
    read_storable (read_as s)
    (cond_by StorableRead (ltb (length s) 4) (λ e. omega arith)
    (λ e. known_storable (meaning_of (take 4 s)) _ (λ m f. cond_by StorableRead (begins 63 (drop 4 s))
    (λ g. query_storable m (arguments (drop 5 s))) (λ g. set_storable (take 4 s) m (arguments (drop 4 s)) f))))
