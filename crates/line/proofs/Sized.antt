-- States whose values fit their fields: commands of at most one argument lead from such a state to such a one, and what
-- they reply has at most as many bytes as a text. Assumes nothing.
use Prim.Native.Nat.{ℕ, ◌/◌, ◌^◌, ◌≤◌, ◌<◌}
use mathlib.Core.Path.{◌≡◌, refl}
use mathlib.Core.Bool.{Bool, true, ◌||◌}
use mathlib.Core.List.{List}
use native.Mathlib.Nat.{mod-lt, sub-le}
use native.Mathlib.Omega.{arith}
use borrow.Author.Tests.{ltb-true, lt-ltb}
use lib.Bits.{or_lt}
use lib.Dec.{ltb, eqb}
use lib.ListN.{length, length-append}
use Rattle.laws.proofs.Tests.{split, cond_by}
use Rattle.laws.proofs.Lists.{all_at}
use Rattle.outcome.specs.Code.{code_of}
use Rattle.outcome.specs.declared.Refusal.{Refusal}
use Rattle.outcome.proofs.Every.{refusal_rule}
use Rattle.settings.specs.Table.{table, start_settings, freq, oflt, next_entry, value_of, with_value}
use Rattle.settings.specs.Frequency.{in_force, is_internal, range_effect_of}
use Rattle.settings.specs.declared.Settings.{Settings}
use Rattle.settings.proofs.Values.{value_either}
use Rattle.settings.proofs.Stands.{effect_le, effect_bits}
use Rattle.storage.specs.Storage.{is_reset, is_running, is_paused, started_of, paused_of, held_after, stored_of}
use Rattle.storage.specs.Storage.{readied_of, trigger_stores, sets_running, triggered_of}
use Rattle.storage.specs.declared.Storage.{Storage}
use Rattle.storage.specs.declared.Sampling.{Sampling}
use Rattle.mnemonic.specs.declared.Register.{Register}
use Rattle.mnemonic.specs.declared.Register.TheVariants.{Standard, Service, Lia, Errors}
use Rattle.mnemonic.specs.declared.Action.{Action}
use Rattle.mnemonic.specs.declared.Action.TheVariants.{Reset, Clear, Start, Pause, Empty, Trigger}
use Rattle.status.specs.Bits.{bit_of, without_bit, meets}
use Rattle.status.specs.Status.{register_of, with_register, cleared_of, bit_cleared, enable_of, with_enable_byte, with_enable}
use Rattle.status.specs.Status.{all_cleared, with_lia, other_bits, status_byte}
use Rattle.status.specs.declared.Registers.{Registers}
use Rattle.status.specs.declared.Enables.{Enables}
use Rattle.status.specs.declared.Poll.{Poll}
use Rattle.status.proofs.Flags.{flag_le, other_lt}
use Rattle.command.specs.declared.SetArgument.TheVariants as set
use Rattle.command.specs.declared.QueryArgument.{QueryArgument}
use Rattle.command.specs.declared.QueryArgument.TheVariants as query
use Rattle.command.specs.declared.Kind.{Kind}
use Rattle.command.specs.declared.Kind.TheVariants.{Set, Query, Act}
use Rattle.state.specs.State.{with_storage, with_settings, with_acquisition, with_registers, with_enables}
use Rattle.state.specs.State.{range_settled, settled, with_error_bit, sampling_of}
use Rattle.state.specs.Storing.{sampled_by}
use Rattle.state.specs.declared.State.{State}
use Rattle.effect.specs.Effect.{set_in, storage_by, storage_after, registers_asked, enables_set, state_after}
use Rattle.format.proofs.Digits.{padded-length}
use Rattle.reply.specs.Text.{value_now, value_text, pair_text, status_now, status_of, identity_text, text_of}
use Rattle.reply.specs.Reply.{terminated_text, query_reply, reply_of}
use Rattle.reply.proofs.Texts.{value-length, plain-short}
use Rattle.line.specs.Parts.{text_most}
use Rattle.line.proofs.Brief.{BriefQuery, Brief}

-- a word of 32 bits is below this
abbrev limit : ℕ
limit = 4294967296

-- the event registers fit 32 bits
pub record RegistersSized (r : Registers) : Type 0 where
  pub standard : r.standard < limit
  pub lia : r.lia < limit
  pub errors : r.errors < limit

-- so do the enables
pub record EnablesSized (e : Enables) : Type 0 where
  pub standard : e.standard < limit
  pub service : e.service < limit
  pub lia : e.lia < limit
  pub errors : e.errors < limit

-- what replies show of a state fits 32 bits; so does the capacity, which bounds how many points are held
pub record Sized (s : State) : Type 0 where
  pub values : (entry : ℕ) → ltb (value_of s.settings entry) limit ≡ true
  pub external : s.acquisition.external < limit
  pub held : s.acquisition.storage.held < limit
  pub capacity : s.installation.capacity < limit
  pub registers : RegistersSized s.registers
  pub enables : EnablesSized s.enables

-- ---- registers and enables

-- a bit cleared makes no number larger
without_le : (x i : ℕ) → without_bit x i ≤ x
unfolding without_bit
without_le x i = sub-le x _

-- a register
register_at : (r : Registers) (which : Register) → RegistersSized r → register_of r which < limit
unfolding register_of
register_at r Standard h = h.standard
register_at r Service h = omega arith
register_at r Lia h = h.lia
register_at r Errors h = h.errors

-- the registers with one of them replaced
register_set : (r : Registers) (which : Register) (x : ℕ) → RegistersSized r → x < limit →
    RegistersSized (with_register r which x)
unfolding with_register
register_set r Standard x h l = record { standard = l; lia = h.lia; errors = h.errors }
register_set r Service x h l = h
register_set r Lia x h l = record { standard = h.standard; lia = l; errors = h.errors }
register_set r Errors x h l = record { standard = h.standard; lia = h.lia; errors = l }

-- the registers after a query
asked_sized : (q : QueryArgument) (r : Registers) → RegistersSized r → RegistersSized (registers_asked q r)
unfolding registers_asked cleared_of bit_cleared
asked_sized (query.Status which) r h = register_set r which 0 h (omega arith)
asked_sized (query.StatusBit which i) r h =
    register_set r which (without_bit (register_of r which) i) h
    (omega (arith, without_le (register_of r which) i, register_at r which h))
asked_sized (query.Value entry) r h = h
asked_sized (query.Pair entry) r h = h
asked_sized (query.Enable which) r h = h
asked_sized (query.EnableBit which i) r h = h
asked_sized query.Identity r h = h
asked_sized query.Points r h = h
asked_sized (query.Trace form t bin count) r h = h

-- an enable
enable_at : (e : Enables) (which : Register) → EnablesSized e → enable_of e which < limit
unfolding enable_of
enable_at e Standard h = h.standard
enable_at e Service h = h.service
enable_at e Lia h = h.lia
enable_at e Errors h = h.errors

-- the enables with one of them replaced
enable-set : (e : Enables) (which : Register) (x : ℕ) → EnablesSized e → x < limit →
    EnablesSized (with_enable_byte e which x)
unfolding with_enable_byte
enable-set e Standard x h l = record { standard = l; service = h.service; lia = h.lia; errors = h.errors }
enable-set e Service x h l =
    record { standard = h.standard; service = omega (arith, without_le x 6); lia = h.lia; errors = h.errors }
enable-set e Lia x h l = record { standard = h.standard; service = h.service; lia = l; errors = h.errors }
enable-set e Errors x h l = record { standard = h.standard; service = h.service; lia = h.lia; errors = l }

-- ---- a state with other parts

-- other registers
registers_sized : (s : State) (r : Registers) → Sized s → RegistersSized r → Sized (with_registers r s)
registers_sized s r h k =
    record {
      values = h.values;
      external = h.external;
      held = h.held;
      capacity = h.capacity;
      registers = k;
      enables = h.enables;
    }

-- another storage
storage_sized : (s : State) (t : Storage) → Sized s → t.held < limit →
    Sized (with_acquisition (with_storage t s.acquisition) s)
storage_sized s t h k =
    record {
      values = h.values;
      external = h.external;
      held = k;
      capacity = h.capacity;
      registers = h.registers;
      enables = h.enables;
    }

-- other settings and enables
settings_sized : (s : State) (x : Settings) (e : Enables) → Sized s → ((i : ℕ) → ltb (value_of x i) limit ≡ true) →
    EnablesSized e → Sized (with_settings x (with_enables e s))
settings_sized s x e h k l =
    record {
      values = k;
      external = h.external;
      held = h.held;
      capacity = h.capacity;
      registers = h.registers;
      enables = l;
    }

-- LIA bits set
lia_sized : (r : Registers) (bits : ℕ) → RegistersSized r → bits < limit → RegistersSized (with_lia r bits)
lia_sized r bits h k = record { standard = h.standard; lia = or_lt 32 _ _ h.lia k; errors = h.errors }

-- a refused command
pub marked_sized : (r : Refusal) (s : State) → Sized s → Sized (with_error_bit r s)
unfolding with_error_bit
marked_sized r s h =
    let known = h.registers in
    let bits = ltb-true _ limit (refusal_rule (λ q. ltb (code_of q).bits limit) refl r) in
    registers_sized s _ h
    (record { standard = or_lt 32 _ _ known.standard bits; lia = known.lia; errors = known.errors })

-- ---- the state after a command

-- settings with one more value
value_sized : (x : Settings) (e v : ℕ) → v < limit → ((i : ℕ) → ltb (value_of x i) limit ≡ true) → (i : ℕ) →
    ltb (value_of (with_value x e v) i) limit ≡ true
value_sized x e v l h i = value_either x e v i (λ y. ltb y limit) (λ p. lt-ltb v limit l) (h i)

-- the settings at start
start_sized : (i : ℕ) → ltb (value_of start_settings i) limit ≡ true
unfolding start_settings table
start_sized i = all_at (λ y. ltb y limit) 0 refl start_settings.values refl i

-- what the frequency range does
settled_sized : (s : State) → Sized s → Sized (settled s)
unfolding settled range_settled
settled_sized s h =
    let constant = value_of s.settings oflt in
    let m = range_settled s.settings s.acquisition in
    let old = s.acquisition.range in
    let effect = range_effect_of old m.range constant in
    let shorter = effect_le old m.range constant in
    let bits = effect_bits old m.range constant (λ bits. bits < limit) (omega arith) (omega arith) (omega arith)
    (omega arith) in
    record {
      values =
          value_sized s.settings oflt effect.constant (omega (arith, ltb-true constant limit (h.values oflt)))
          h.values;
      external = h.external;
      held = h.held;
      capacity = h.capacity;
      registers = lia_sized s.registers effect.bits h.registers bits;
      enables = h.enables;
    }

module _ (t : Storage) (capacity : ℕ) (by : Sampling) (h : t.held < limit) (k : capacity < limit) where
  -- how many points are held after STRT
  started-held : (started_of t).held < limit
  unfolding started_of
  started-held = cond_by (λ (u : Storage). u.held < limit) (is_reset t || is_paused t) (λ e. h) (λ e. h)

  -- and where a trigger may have started storage
  readied_held : (readied_of t by).held < limit
  unfolding readied_of
  readied_held = cond_by (λ (u : Storage). u.held < limit) (eqb by.start 1) (λ e. started-held) (λ e. h)

  -- and after any action
  acted_held : (a : Action) → (storage_by a t capacity by).storage.held < limit
  unfolding storage_by paused_of triggered_of stored_of held_after
  acted_held Reset = omega arith
  acted_held Clear = h
  acted_held Start = started-held
  acted_held Pause = cond_by (λ (u : Storage). u.held < limit) (is_running t) (λ e. h) (λ e. h)
  acted_held Empty = omega arith
  acted_held Trigger =
      split (trigger_stores t by) (λ e. rw e (omega arith)) (λ e. rw e readied_held)

-- the LIA bits that TRIG sets
trigger_bits : (t : Storage) (capacity : ℕ) (by : Sampling) → (storage_by Trigger t capacity by).bits < limit
unfolding storage_by triggered_of
trigger_bits t capacity by =
    split (sets_running t by || trigger_stores t by) (λ e. rw e (omega arith)) (λ e. rw e (omega arith))

-- an action
act_sized : (a : Action) (s : State) → Sized s → Sized (state_after (Act a) s)
unfolding state_after storage_after sampled_by
act_sized a s h = by a (acted_held t capacity sampling h.held h.capacity a) where
  t : Storage
  t = s.acquisition.storage

  capacity : ℕ
  capacity = s.installation.capacity

  sampling : Sampling
  sampling = sampling_of s.settings

  by : (a : Action) → (storage_by a t capacity sampling).storage.held < limit → Sized (state_after (Act a) s)
  by Reset k =
      record {
        values = start_sized;
        external = omega arith;
        held = k;
        capacity = h.capacity;
        registers = h.registers;
        enables = h.enables;
      }
  by Clear k =
      storage_sized _ _
      (registers_sized s all_cleared h (record { standard = omega arith; lia = omega arith; errors = omega arith })) k
  by Start k = storage_sized s _ h k
  by Pause k = storage_sized s _ h k
  by Empty k = storage_sized s _ h k
  by Trigger k =
      registers_sized _ _ (storage_sized s _ h k)
      (lia_sized s.registers _ h.registers (trigger_bits t capacity sampling))

-- other settings and enables, and what the frequency range does
moved_sized : (s : State) (x : Settings) (e : Enables) → Sized s → ((i : ℕ) → ltb (value_of x i) limit ≡ true) →
    EnablesSized e → Sized (settled (with_settings x (with_enables e s)))
moved_sized s x e h k l = settled_sized (with_settings x (with_enables e s)) (settings_sized s x e h k l)

-- a command of at most one argument
pub after_sized : (kind : Kind) (s : State) → Brief kind → Sized s → Sized (state_after kind s)
unfolding state_after set_in enables_set with_enable
after_sized (Set (set.Value entry v)) s b h =
    moved_sized s (with_value s.settings entry v) s.enables h (value_sized s.settings entry v b h.values)
    h.enables
after_sized (Set (set.Pair entry v w)) s b h = absurd b
after_sized (Set (set.Enable which v)) s b h =
    moved_sized s s.settings _ h h.values
    (enable-set s.enables which _ h.enables (omega (arith, mod-lt v {m = 256} (omega arith))))
after_sized (Set (set.EnableBit which i v)) s b h = absurd b
after_sized (Query q) s b h = registers_sized s _ h (asked_sized q s.registers h.registers)
after_sized (Act a) s b h = act_sized a s h

-- ---- what it replies

-- the value that a query replies
now_sized : (s : State) (entry : ℕ) → Sized s → value_now s entry < limit
unfolding value_now in_force
now_sized s entry h =
    let kept : (i : ℕ) → value_of s.settings i < limit = λ i. ltb-true _ limit (h.values i) in
    cond_by (λ v. v < limit) (eqb entry freq)
    (λ e. cond_by (λ v. v < limit) (is_internal s.settings) (λ f. kept freq) (λ f. h.external)) (λ e. kept entry)

-- the status byte
byte_sized : (r : Registers) (e : Enables) (p : Poll) → status_byte r e p < limit
unfolding status_byte
byte_sized r e p = omega (arith, other_lt r e p, flag_le (meets (other_bits r e p) e.service) 6)

-- what a status query reads
status_sized : (s : State) (waiting : Bool) (which : Register) → Sized s → status_of s waiting which < limit
unfolding status_of status_now
status_sized s waiting Standard h = register_at s.registers Standard h.registers
status_sized s waiting Service h = byte_sized s.registers s.enables _
status_sized s waiting Lia h = register_at s.registers Lia h.registers
status_sized s waiting Errors h = register_at s.registers Errors h.registers

-- a bit
bit_sized : (x i : ℕ) → bit_of x i < limit
unfolding bit_of
bit_sized x i = omega (arith, mod-lt (x / 2 ^ i) {m = 2} (omega arith))

-- a value's text has 12 bytes at most
value-short : (s : State) (entry : ℕ) → Sized s → length (value_text s entry) ≤ 12
unfolding value_text
value-short s entry h = value-length entry (value_now s entry) (now_sized s entry h)

-- a reply's text has 27 bytes at most
text-short : (q : QueryArgument) (s : State) (waiting : Bool) → BriefQuery q → Sized s →
    length (text_of q s waiting) ≤ 27
unfolding text_of pair_text identity_text
text-short (query.Value entry) s waiting b h = omega (arith, value-short s entry h)
text-short (query.Pair entry) s waiting b h =
    let second = next_entry entry in
    rw length-append
    (omega (arith, value-short s entry h, value-length second (value_now s second) (now_sized s second h)))
text-short (query.Enable which) s waiting b h =
    omega (arith, plain-short _ (enable_at s.enables which h.enables))
text-short (query.EnableBit which i) s waiting b h =
    omega (arith, plain-short _ (bit_sized (enable_of s.enables which) i))
text-short (query.Status which) s waiting b h = omega (arith, plain-short _ (status_sized s waiting which h))
text-short (query.StatusBit which i) s waiting b h =
    omega (arith, plain-short _ (bit_sized (status_of s waiting which) i))
text-short query.Identity s waiting b h = rw (length-append, length-append, padded-length) (omega arith)
text-short query.Points s waiting b h = omega (arith, plain-short _ h.held)
text-short (query.Trace form t bin count) s waiting b h = absurd b

-- the text and its end
ended-short : (q : QueryArgument) (s : State) (waiting : Bool) → BriefQuery q → Sized s →
    length (terminated_text q s waiting) ≤ text_most
unfolding terminated_text
ended-short q s waiting b h = rw length-append (omega (arith, text-short q s waiting b h))

-- a command of at most one argument
pub reply-short : (kind : Kind) (s : State) (waiting : Bool) (one two : List ℕ) → Brief kind → Sized s →
    length (reply_of kind s waiting one two) ≤ text_most
unfolding reply_of query_reply
reply-short (Set a) s waiting one two b h = omega arith
reply-short (Act a) s waiting one two b h = omega arith
reply-short (Query (query.Value entry)) s waiting one two b h = ended-short (query.Value entry) s waiting b h
reply-short (Query (query.Pair entry)) s waiting one two b h = ended-short (query.Pair entry) s waiting b h
reply-short (Query (query.Enable which)) s waiting one two b h = ended-short (query.Enable which) s waiting b h
reply-short (Query (query.EnableBit which i)) s waiting one two b h =
    ended-short (query.EnableBit which i) s waiting b h
reply-short (Query (query.Status which)) s waiting one two b h = ended-short (query.Status which) s waiting b h
reply-short (Query (query.StatusBit which i)) s waiting one two b h =
    ended-short (query.StatusBit which i) s waiting b h
reply-short (Query query.Identity) s waiting one two b h = ended-short query.Identity s waiting b h
reply-short (Query query.Points) s waiting one two b h = ended-short query.Points s waiting b h
reply-short (Query (query.Trace form t bin count)) s waiting one two b h = absurd b
