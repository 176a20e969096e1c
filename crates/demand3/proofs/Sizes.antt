-- What the length of a reply depends on, beside the rules of refusal 11: a value for each entry of the table and no
-- other, registers and enables that are bytes. Commands and the events of the check's two courses keep it.
use Prim.Native.Nat.{ℕ, ◌%◌, ◌^◌, ◌<◌}
use native.Mathlib.Omega.{arith}
use mathlib.Core.Bool.{Bool, true, false, cond, ◌||◌}
use mathlib.Core.Path.{◌≡◌, refl, ◌∙◌}
use mathlib.Core.List.{List}
use lib.Bits.{bit_or, or_lt}
use lib.Dec.{eqb, ltb}
use lib.ListN.{length, set, length-set}
use lib.Pow.{pow-lt}
use borrow.Author.Tests.{ltb-true}
use Rattle.outcome.specs.Code.{code_of}
use Rattle.outcome.specs.declared.Refusal.{Refusal}
use Rattle.outcome.proofs.Every.{refusal_rule}
use Rattle.settings.specs.Table.{entries, table, oflt, start_settings, next_entry, value_of}
use Rattle.settings.specs.Frequency.{is_internal}
use Rattle.settings.specs.declared.Settings.{Settings}
use Rattle.settings.proofs.Stands.{effect_bits}
use Rattle.storage.specs.Storage.{bit6, trigger_stores, sets_running, triggered_of}
use Rattle.storage.specs.declared.Storage.{Storage}
use Rattle.storage.specs.declared.Sampling.{Sampling}
use Rattle.status.specs.Bits.{without_bit, with_bit}
use Rattle.status.specs.Status.{register_of, with_register, cleared_of, bit_cleared, with_standard, with_lia, enable_of}
use Rattle.status.specs.Status.{with_enable_byte, with_enable, with_enable_bit}
use Rattle.status.specs.declared.Registers.{Registers}
use Rattle.status.specs.declared.Enables.{Enables}
use Rattle.mnemonic.specs.declared.Register.{Register}
use Rattle.mnemonic.specs.declared.Register.TheVariants.{Standard, Service, Lia, Errors}
use Rattle.mnemonic.specs.declared.Action.{Action}
use Rattle.mnemonic.specs.declared.Action.TheVariants.{Reset, Clear, Start, Pause, Empty, Trigger}
use Rattle.command.specs.declared.SetArgument.{SetArgument}
use Rattle.command.specs.declared.SetArgument.TheVariants as set
use Rattle.command.specs.declared.QueryArgument.{QueryArgument}
use Rattle.command.specs.declared.QueryArgument.TheVariants as query
use Rattle.command.specs.declared.Kind.{Kind}
use Rattle.command.specs.declared.Kind.TheVariants.{Set, Query, Act}
use Rattle.state.specs.State.{with_registers, sampling_of, range_settled, settled, with_error_bit}
use Rattle.state.specs.Storing.{trigger_of, sampled_by}
use Rattle.state.specs.declared.State.{State}
use Rattle.effect.specs.Effect.{with_pair, set_in, storage_by, storage_after, registers_asked}
use Rattle.effect.specs.Effect.{enables_set, state_after}
use Rattle.event.specs.Event.{takes_frequency, with_external, not_taken, measured_by, sampled_in, event_of}
use Rattle.event.specs.declared.Event.TheVariants as event
use Rattle.invariant.specs.Representable.{Byte, RegistersFit, EnablesFit}

pub record Sized (s : State) : Type 0 where
  pub full : length s.settings.values ≡ entries
  pub registers : RegistersFit s.registers
  pub enables : EnablesFit s.enables

-- ---- bytes

without_byte : (x i : ℕ) → Byte x → Byte (without_bit x i)
unfolding without_bit
without_byte x i h = omega arith

with_byte : (x i v : ℕ) → Byte x → Byte (with_bit x i v)
unfolding with_bit
with_byte x i v h = by (ltb i 8) (eqb v 0) refl where
  by : (t u : Bool) → ltb i 8 ≡ t → Byte (cond t (cond u (without_bit x i) (bit_or x (2 ^ i))) x)
  by true true e = without_byte x i h
  by true false e = or_lt 8 x (2 ^ i) h (pow-lt (ltb-true i 8 e))
  by false u e = h

module _ (r : Registers) (k : RegistersFit r) where
  lia-fits : (bits : ℕ) → Byte bits → RegistersFit (with_lia r bits)
  lia-fits bits h = record { standard = k.standard; lia = or_lt 8 r.lia bits k.lia h; errors = k.errors }

  standard-fits : (bits : ℕ) → Byte bits → RegistersFit (with_standard r bits)
  standard-fits bits h =
      record { standard = or_lt 8 r.standard bits k.standard h; lia = k.lia; errors = k.errors }

  pub register_byte : (which : Register) → Byte (register_of r which)
  unfolding register_of
  register_byte Standard = k.standard
  register_byte Service = omega arith
  register_byte Lia = k.lia
  register_byte Errors = k.errors

  with_register_fits : (which : Register) (x : ℕ) → Byte x → RegistersFit (with_register r which x)
  unfolding with_register
  with_register_fits Standard x h = record { standard = h; lia = k.lia; errors = k.errors }
  with_register_fits Service x h = k
  with_register_fits Lia x h = record { standard = k.standard; lia = h; errors = k.errors }
  with_register_fits Errors x h = record { standard = k.standard; lia = k.lia; errors = h }

  asked-fits : (q : QueryArgument) → RegistersFit (registers_asked q r)
  unfolding registers_asked cleared_of bit_cleared
  asked-fits (query.Status which) = with_register_fits which 0 (omega arith)
  asked-fits (query.StatusBit which i) =
      with_register_fits which (without_bit (register_of r which) i)
      (without_byte (register_of r which) i (register_byte which))
  asked-fits (query.Value entry) = k
  asked-fits (query.Pair entry) = k
  asked-fits (query.Enable which) = k
  asked-fits (query.EnableBit which i) = k
  asked-fits query.Identity = k
  asked-fits query.Points = k
  asked-fits (query.Trace form t bin count) = k

module _ (e : Enables) (k : EnablesFit e) where
  pub enable-byte : (which : Register) → Byte (enable_of e which)
  unfolding enable_of
  enable-byte Standard = k.standard
  enable-byte Service = k.service
  enable-byte Lia = k.lia
  enable-byte Errors = k.errors

  with-enable-fits : (which : Register) (x : ℕ) → Byte x → EnablesFit (with_enable_byte e which x)
  unfolding with_enable_byte
  with-enable-fits Standard x h = record { standard = h; service = k.service; lia = k.lia; errors = k.errors }
  with-enable-fits Service x h =
      record { standard = k.standard; service = without_byte x 6 h; lia = k.lia; errors = k.errors }
  with-enable-fits Lia x h = record { standard = k.standard; service = k.service; lia = h; errors = k.errors }
  with-enable-fits Errors x h = record { standard = k.standard; service = k.service; lia = k.lia; errors = h }

  set-fits : (a : SetArgument) → EnablesFit (enables_set a e)
  unfolding enables_set with_enable with_enable_bit
  set-fits (set.Enable which v) = with-enable-fits which (v % 256) (omega arith)
  set-fits (set.EnableBit which i v) =
      with-enable-fits which (with_bit (enable_of e which) i v) (with_byte (enable_of e which) i v (enable-byte which))
  set-fits (set.Value entry v) = k
  set-fits (set.Pair entry v w) = k

-- ---- bits that are set

trigger_byte : (s : Storage) (capacity : ℕ) (by : Sampling) → Byte (triggered_of s capacity by).bits
unfolding triggered_of
trigger_byte s capacity by = side (sets_running s by || trigger_stores s by) where
  side : (t : Bool) → cond t bit6 0 < 2 ^ 8
  side true = omega arith
  side false = omega arith

refusal_byte : (r : Refusal) → Byte (code_of r).bits
refusal_byte r = ltb-true _ (2 ^ 8) (refusal_rule (λ q. ltb (code_of q).bits (2 ^ 8)) refl r)

-- ---- a state

settled_sized : (s : State) → Sized s → Sized (settled s)
unfolding settled
settled_sized s k =
    let old = s.acquisition.range in
    let new = (range_settled s.settings s.acquisition).range in
    record {
      full = length-set s.settings.values oflt _ ∙ k.full;
      registers =
          lia-fits s.registers k.registers _
          (effect_bits old new (value_of s.settings oflt) Byte (omega arith) (omega arith) (omega arith)
          (omega arith));
      enables = k.enables;
    }

set_full : (a : SetArgument) (x : Settings) → length x.values ≡ entries → length (set_in x a).values ≡ entries
unfolding set_in with_pair
set_full (set.Value e v) x h = length-set x.values e v ∙ h
set_full (set.Pair e v w) x h = length-set (set x.values e v) (next_entry e) w ∙ (length-set x.values e v ∙ h)
set_full (set.Enable r v) x h = h
set_full (set.EnableBit r i v) x h = h

trigger_fits : (s : State) → RegistersFit s.registers → RegistersFit (with_lia s.registers (trigger_of s).bits)
unfolding trigger_of
trigger_fits s k =
    lia-fits s.registers k _ (trigger_byte s.acquisition.storage s.installation.capacity
    (sampling_of s.settings))

-- a trigger, by the event or by TRIG
triggered_sized : (s : State) → Sized s → Sized (sampled_by (trigger_of s) s)
unfolding sampled_by
triggered_sized s k = record { full = k.full; registers = trigger_fits s k.registers; enables = k.enables }

set_sized : (a : SetArgument) (s : State) → Sized s → Sized (state_after (Set a) s)
unfolding state_after
set_sized a s k =
    settled_sized _
    (record {
      full = set_full a s.settings k.full;
      registers = k.registers;
      enables = set-fits s.enables k.enables a;
    })

query_sized : (q : QueryArgument) (s : State) → Sized s → Sized (state_after (Query q) s)
unfolding state_after
query_sized q s k =
    record { full = k.full; registers = asked-fits s.registers k.registers q; enables = k.enables }

acted_sized : (a : Action) (s : State) → Sized s → Sized (state_after (Act a) s)
unfolding state_after storage_after storage_by trigger_of
acted_sized Reset s k =
    record { full = unfold start_settings table in refl; registers = k.registers; enables = k.enables }
acted_sized Clear s k =
    record {
      full = k.full;
      registers = record { standard = omega arith; lia = omega arith; errors = omega arith };
      enables = k.enables;
    }
acted_sized Start s k = record { full = k.full; registers = k.registers; enables = k.enables }
acted_sized Pause s k = record { full = k.full; registers = k.registers; enables = k.enables }
acted_sized Empty s k = record { full = k.full; registers = k.registers; enables = k.enables }
acted_sized Trigger s k = triggered_sized s k

-- a command that is done, and one that is refused
pub after_sized : (kind : Kind) (s : State) → Sized s → Sized (state_after kind s)
after_sized (Set a) s k = set_sized a s k
after_sized (Query q) s k = query_sized q s k
after_sized (Act a) s k = acted_sized a s k

pub marked_sized : (r : Refusal) (s : State) → Sized s → Sized (with_error_bit r s)
unfolding with_error_bit
marked_sized r s k =
    record {
      full = k.full;
      registers = standard-fits s.registers k.registers _ (refusal_byte r);
      enables = k.enables;
    }

-- a trigger, and a measured frequency
pub trigger_sized : (s : State) (one two : List ℕ) → Sized s → Sized (event_of event.Trigger s one two).after
unfolding event_of sampled_in
trigger_sized s one two k = triggered_sized s k

pub measured_sized : (f : ℕ) (s : State) (one two : List ℕ) → Sized s
    → Sized (event_of (event.Measured f) s one two).after
unfolding event_of measured_by
measured_sized f s one two k = by (is_internal s.settings) (takes_frequency s f) where
  taken : State
  taken = settled (with_external f s)

  left : State
  left = with_registers (with_lia s.registers not_taken) s

  by : (a b : Bool) → Sized (cond a s (cond b taken left))
  by true b = k
  by false true =
      settled_sized (with_external f s)
      (record { full = k.full; registers = k.registers; enables = k.enables })
  by false false =
      record {
        full = k.full;
        registers = lia-fits s.registers k.registers not_taken (omega arith);
        enables = k.enables;
      }
