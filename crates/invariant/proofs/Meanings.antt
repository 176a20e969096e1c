-- What each name stands for fits the settings table: one test that computes over the list of names. Assumes nothing.
use Prim.Native.Nat.{ℕ, ◌+◌, ◌-◌, ◌*◌, ◌<◌, ◌≤◌}
use mathlib.Core.Path.{◌≡◌, refl}
use mathlib.Core.Bool.{Bool, true, false, cond, ◌&&◌, and-eq-true_iff}
use mathlib.Core.List.{List, [], ◌∷◌}
use native.Mathlib.Omega.{arith}
use lib.Dec.{leb, ltb, eqb}
use lib.ListN.{length}
use borrow.Author.Tests.{ltb-true, leb-true, eqb-true}
use Rattle.std.specs.Prelude.{Some}
use Rattle.mnemonic.specs.Names.{commands, same_bytes, meaning_of}
use Rattle.mnemonic.specs.declared.Register.{Register}
use Rattle.mnemonic.specs.declared.Meaning.{Meaning}
use Rattle.mnemonic.specs.declared.Meaning.TheVariants.{Setting, Channel, ChannelPair, Enable, Status, Identity}
use Rattle.mnemonic.specs.declared.Meaning.TheVariants.{Points, Trace, Act}
use Rattle.mnemonic.proofs.Rule.{same_bytes_lem, named_by, name_rule}
use Rattle.settings.specs.Table.{table, row_of, entries, oflt, send}
use Rattle.settings.specs.Setting.{step_of}
use Rattle.settings.specs.Valid.{every, value_valid}
use Rattle.settings.proofs.Every.{every_at}
use Rattle.laws.proofs.Lists.{all}
use Rattle.invariant.proofs.Bytes.{in_command}

-- ---- entries with channels

-- a flag as a number
abbrev flag : Bool → ℕ
flag t = cond t 1 0

-- the cells of an entry's row that say how a value is kept and written
abbrev cells : ℕ → List ℕ
cells e =
    (row_of e).bias ∷ (row_of e).decimals ∷ (row_of e).least ∷ (row_of e).most ∷ (row_of e).step ∷ flag (row_of e).scales ∷ []

-- a flag is known by its number
same_flag : (a b : Bool) → flag a ≡ flag b → a ≡ b
same_flag true true e = refl
same_flag false false e = refl
same_flag true false e = absurd (omega arith)
same_flag false true e = absurd (omega arith)

-- two entries that keep and write a value alike; they lie between OFLT and SEND, where no rule binds an entry
pub record Alike (e f : ℕ) : Type 0 where
  pub inside : e < entries
  pub past : oflt < e
  pub before : e < send
  second : oflt < f
  rows : cells e ≡ cells f

module _ {e f : ℕ} (a : Alike e f) where
  -- their texts have the same decimals and the same bias
  pub alike_text : ((row_of e).decimals ≡ (row_of f).decimals) × ((row_of e).bias ≡ (row_of f).bias)
  alike_text =
      let r = a.rows in
      let d : (row_of e).decimals ≡ (row_of f).decimals = cc in
      let b : (row_of e).bias ≡ (row_of f).bias = cc in
      (d, b)

module _ {e f : ℕ} (a : Alike e f) (v : ℕ) where
  -- a state may keep the same values at both
  pub alike_keeps : value_valid e v ≡ value_valid f v
  unfolding value_valid step_of
  alike_keeps =
      let r = a.rows in
      let l : (row_of e).least ≡ (row_of f).least = cc in
      let m : (row_of e).most ≡ (row_of f).most = cc in
      let s : (row_of e).step ≡ (row_of f).step = cc in
      let t : flag (row_of e).scales ≡ flag (row_of f).scales = cc in
      rw (l, m, s, same_flag (row_of e).scales (row_of f).scales t)

-- entries between OFLT and SEND, by a test of their cells
alike_at : (e f : ℕ) → oflt < e → e < send → oflt < f → same_bytes (cells e) (cells f) ≡ true → Alike e f
alike_at e f past before second h =
    record { inside = omega arith; past = past; before = before; second = second; rows = same_bytes_lem _ _ h }

-- ---- the test

-- a setting's name is four bytes of a command
abbrev is_name : List ℕ → Bool
is_name name = eqb (length name) 4 && all in_command name

-- the entries of channels, from base up to end, lie between OFLT and SEND, and each passes a test
abbrev channels_fit : (ℕ → Bool) → ℕ → ℕ → ℕ → Bool
channels_fit alike base end channels = ltb oflt base && (leb end send && every alike channels)

-- the entry of a channel is as the first one's
abbrev alike_one : ℕ → ℕ → Bool
alike_one base k = same_bytes (cells (base + k)) (cells base)

-- both entries of a channel are as the first one's
abbrev alike_two : ℕ → ℕ → Bool
alike_two base k =
    same_bytes (cells (base + 2 * k)) (cells base) && same_bytes (cells (base + 2 * k + 1)) (cells (base + 1))

-- what a name stands for fits the table, for every channel
abbrev fits : List ℕ → Meaning → Bool
fits name (Setting entry) = is_name name && ltb entry entries
fits name (Channel base channels) = is_name name && channels_fit (alike_one base) base (base + channels) channels
fits name (ChannelPair base channels) = is_name name && channels_fit (alike_two base) base (base + 2 * channels) channels
fits name (Enable r) = is_name name
fits name (Status r) = true
fits name Identity = true
fits name Points = true
fits name (Trace form) = true
fits name (Act a) = true

fits_all : all (named_by fits) commands ≡ true
unfolding every table row_of
fits_all = refl

-- ---- what follows of a name

-- four bytes of a command
pub record Name (name : List ℕ) : Type 0 where
  pub four : length name ≡ 4
  pub bytes : all in_command name ≡ true

is_name_lem : (name : List ℕ) → is_name name ≡ true → Name name
is_name_lem name h =
    let both = (and-eq-true_iff (eqb (length name) 4) (all in_command name)).0 h in
    record { four = eqb-true (length name) 4 both.0; bytes = both.1 }

module _ (name : List ℕ) where
  fits-name : (m : Meaning) → meaning_of name ≡ Some m → fits name m ≡ true
  fits-name m e = name_rule fits fits_all name m e

  pub name_of_one : (entry : ℕ) → meaning_of name ≡ Some (Setting entry) → Name name × (entry < entries)
  name_of_one entry e =
      let both = (and-eq-true_iff (is_name name) (ltb entry entries)).0 (fits-name (Setting entry) e) in
      (is_name_lem name both.0, ltb-true entry entries both.1)

  pub name_of_enable : (which : Register) → meaning_of name ≡ Some (Enable which) → Name name
  name_of_enable which e = is_name_lem name (fits-name (Enable which) e)

  -- channels of the table, each by a test
  record Channels (alike : ℕ → Bool) (base end channels : ℕ) : Type 0 where
    named : Name name
    first : oflt < base
    last : end ≤ send
    each : (k : ℕ) → k < channels → alike k ≡ true

  channels_fit_lem : (alike : ℕ → Bool) (base end channels : ℕ) →
      (is_name name && channels_fit alike base end channels) ≡ true → Channels alike base end channels
  channels_fit_lem alike base end channels h =
      let one = (and-eq-true_iff (is_name name) (channels_fit alike base end channels)).0 h in
      let two = (and-eq-true_iff (ltb oflt base) (leb end send && every alike channels)).0 one.1 in
      let three = (and-eq-true_iff (leb end send) (every alike channels)).0 two.1 in
      record {
        named = is_name_lem name one.0;
        first = ltb-true oflt base two.0;
        last = leb-true end send three.0;
        each = every_at alike channels three.1;
      }

  module _ (base channels i : ℕ) (some : 1 ≤ i) (most : i ≤ channels) where
    pub name_of_channel : meaning_of name ≡ Some (Channel base channels) →
        Name name × (channels ≤ entries) × Alike (base + (i - 1)) base
    name_of_channel e =
        let f = channels_fit_lem (alike_one base) base (base + channels) channels (fits-name (Channel base channels) e) in
        let same = f.each (i - 1) (omega arith) in
        (f.named, omega arith, alike_at (base + (i - 1)) base (omega arith) (omega arith) f.first same)

    pub name_of_pair : meaning_of name ≡ Some (ChannelPair base channels) →
        Name name × (channels ≤ entries) × Alike (base + 2 * (i - 1)) base × Alike (base + 2 * (i - 1) + 1) (base + 1)
    name_of_pair e =
        let h = fits-name (ChannelPair base channels) e in
        let f = channels_fit_lem (alike_two base) base (base + 2 * channels) channels h in
        let at = base + 2 * (i - 1) in
        let c = same_bytes (cells at) (cells base) in
        let d = same_bytes (cells (at + 1)) (cells (base + 1)) in
        let both = (and-eq-true_iff c d).0 (f.each (i - 1) (omega arith)) in (
          f.named,
          omega arith,
          alike_at at base (omega arith) (omega arith) f.first both.0,
          alike_at (at + 1) (base + 1) (omega arith) (omega arith) (omega arith) both.1,
        )
