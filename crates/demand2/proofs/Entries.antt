-- Every entry of the table belongs to a setting that a name stands for: one test that computes. Assumes nothing.
use Prim.Native.Nat.{ℕ, ◌+◌, ◌-◌, ◌*◌, ◌/◌, ◌<◌, ◌≤◌}
use mathlib.Core.Path.{◌≡◌, refl, sym, ap, ◌∙◌}
use mathlib.Core.Bool.{Bool, true, false, true≢false, ◌&&◌, and-eq-true_iff}
use mathlib.Core.List.{List, [], ◌∷◌, Memᴰ}
use native.Mathlib.Omega.{arith}
use lib.Dec.{leb, ltb, eqb}
use borrow.Author.Tests.{ltb-true, leb-true, eqb-true, eqb-false}
use Rattle.std.specs.Prelude.{Some}
use Rattle.mnemonic.specs.Names.{commands, meaning_in, meaning_of}
use Rattle.mnemonic.specs.declared.Meaning.{Meaning}
use Rattle.mnemonic.specs.declared.Meaning.TheVariants.{Setting, Channel, ChannelPair, Enable, Status, Identity}
use Rattle.mnemonic.specs.declared.Meaning.TheVariants.{Points, Trace, Act}
use Rattle.mnemonic.proofs.Rule.{some, name_found}
use Rattle.settings.specs.Table.{entries, next_entry}
use Rattle.settings.specs.Valid.{every}
use Rattle.settings.proofs.Every.{every_at}
use Rattle.settings.proofs.Values.{next_is}
use Rattle.demand2.specs.Demand2.{at_entry, Address, plainly, channelled, IsSetting, alone, channel, pair}
use Rattle.demand2.specs.Entries.{EveryEntry}

-- a meaning's entries, over all channels
abbrev within : ℕ → ℕ → ℕ → Bool
within base end entry = leb base entry && ltb entry end

abbrev covers : ℕ → Meaning → Bool
covers entry (Setting at) = eqb entry at
covers entry (Channel base channels) = within base (base + channels) entry
covers entry (ChannelPair base channels) = within base (base + 2 * channels) entry
covers entry (Enable r) = false
covers entry (Status r) = false
covers entry Identity = false
covers entry Points = false
covers entry (Trace form) = false
covers entry (Act a) = false

all_covered : every (λ entry. some (covers entry) commands) entries ≡ true
unfolding every meaning_in
all_covered = refl

record Within (base end entry : ℕ) : Type 0 where
  least : base ≤ entry
  most : entry < end

is_within : (base end entry : ℕ) → within base end entry ≡ true → Within base end entry
is_within base end entry h =
    let both = (and-eq-true_iff (leb base entry) (ltb entry end)).0 h in
    record { least = leb-true base entry both.0; most = ltb-true entry end both.1 }

module _ (entry : ℕ) (inside : entry < entries) (name : List ℕ) where
  Finding : Type 0
  Finding = (a : Address) × IsSetting a × Memᴰ (at_entry entry) a.holds

  found_pair : (base channels : ℕ) → meaning_of name ≡ Some (ChannelPair base channels) →
      Within base (base + 2 * channels) entry → Finding
  unfolding Finding
  found_pair base channels e w = (
    channelled name i (at_entry at ∷ at_entry (next_entry at) ∷ []),
    pair name base channels i e (omega arith) (omega arith),
    by (eqb entry at) refl,
  )
    where
      -- the channel, and its first entry
      i : ℕ
      i = (entry - base) / 2 + 1

      at : ℕ
      at = base + 2 * (i - 1)

      by : (t : Bool) → eqb entry at ≡ t → Memᴰ (at_entry entry) (at_entry at ∷ at_entry (next_entry at) ∷ [])
      by true z = Memᴰ.head (ap at_entry (eqb-true entry _ z))
      by false z =
          let other = eqb-false entry at z in
          let next : entry ≡ at + 1 = omega arith in
          Memᴰ.tail (Memᴰ.head (ap at_entry (next ∙ sym (next_is at (omega arith)))))

  found_in_lem : (m : Meaning) → meaning_of name ≡ Some m → covers entry m ≡ true → Finding
  unfolding Finding
  found_in_lem (Setting at) e h =
      (plainly name (at_entry at), alone name at e, Memᴰ.head (ap at_entry (eqb-true entry at h)))
  found_in_lem (Channel base channels) e h =
      let w = is_within base (base + channels) entry h in
      let i = entry - base + 1 in
      let here : entry ≡ base + (i - 1) = omega arith in (
        channelled name i (at_entry (base + (i - 1)) ∷ []),
        channel name base channels i e (omega arith) (omega arith),
        Memᴰ.head (ap at_entry here),
      )
  found_in_lem (ChannelPair base channels) e h = found_pair base channels e (is_within base (base + 2 * channels) entry h)
  found_in_lem (Enable r) e h = absurd (true≢false (sym h))
  found_in_lem (Status r) e h = absurd (true≢false (sym h))
  found_in_lem Identity e h = absurd (true≢false (sym h))
  found_in_lem Points e h = absurd (true≢false (sym h))
  found_in_lem (Trace form) e h = absurd (true≢false (sym h))
  found_in_lem (Act a) e h = absurd (true≢false (sym h))

pub every_entry : EveryEntry
unfolding Finding
every_entry entry h =
    let n =
    name_found (covers entry) commands (every_at (λ e. some (covers e) commands) entries all_covered entry h)
    in
    found_in_lem entry h n.0 n.1 n.2 n.3
