-- Demand 2: what the query of a setting replies, sent back, sets the same value (§4.7). Over the call with a whole
-- line, for every setting, enable and channel, in every module that refusals 11 and 9 let pass.
--
-- Five modules that do less than the manual says are excluded, each by a claim on the calls, and each is a wrong
-- program under crates/ besides:
-- - whatever is sent is refused: by `asked` and `back` below; module/must-fail/refuses_everything,
-- - every query has the same reply: by `sent`, since a reply gives the values; reply/must-fail/replies_alike,
-- - a set is taken and no value changes: by `sent`; effect/must-fail/keeps_nothing,
-- - only the first command of a line is done, the later ones just counted: by Lines.antt (§2.6);
--   line/must-fail/later_commands_acknowledged,
-- - SPTS? replies some number: by Points.antt (§7.9); reply/must-fail/points_invented.
use Rattle.std.specs.Prelude.{ℕ, ◌+◌, ◌-◌, ◌*◌, ◌≤◌, Some, ◌≡◌, true, length}
use mathlib.Core.List.{List, [], ◌∷◌, ◌++◌, map, Memᴰ}
use Rattle.command.specs.Arguments.{comma, question_mark}
use Rattle.format.specs.Text.{plain}
use Rattle.mnemonic.specs.Names.{meaning_of}
use Rattle.mnemonic.specs.declared.Register.{Register}
use Rattle.mnemonic.specs.declared.Meaning.TheVariants.{Setting, Channel, ChannelPair, Enable}
use Rattle.settings.specs.Table.{fmod, freq, harm, oflt, send, next_entry, value_of}
use Rattle.settings.specs.Frequency.{is_internal}
use Rattle.storage.specs.Storage.{is_reset}
use Rattle.status.specs.Status.{enable_of}
use Rattle.outcome.specs.declared.Refusal.TheVariants.{NotAllowed}
use Rattle.outcome.specs.Code.{done}
use Rattle.outcome.specs.Answer.{report_of, passed, refused_at}
use Rattle.state.specs.State.{with_error_bit}
use Rattle.state.specs.declared.State.{State}
use Rattle.reply.specs.Text.{terminator_of}
use Rattle.module.specs.Module.{guard_of}
use Rattle.module.specs.declared.Module.{Module}
use Rattle.reply_buffer.specs.After.{silent}
use Rattle.lockin.specs.Calls.{Call, line_call}
use Rattle.invariant.specs.Representable.{ModuleFits}
use Rattle.demand2.specs.Written.{written}

-- ---- the settings, as commands name them

-- where a value is
pub data Location : Type 0 where
  -- §5.1: at an entry of the settings table
  at_entry : ℕ → Location
  -- §10.3: in one of the enables *ESE, *SRE, LIAE and ERRE
  at_enable : Register → Location

-- §3.3: a setting: the text of its query, the text that sends a reply back, and where its values are
pub record Address : Type 0 where
  pub query : List ℕ
  pub set : List ℕ → List ℕ
  pub holds : List Location

-- §3.3: a setting without channels, as PHAS: asked by PHAS?, sent back as PHAS and the reply
abbrev pub plainly : List ℕ → Location → Address
plainly name place = record { query = name ++ (question_mark ∷ []); set = λ reply. name ++ reply; holds = place ∷ [] }

-- §3.3 and §5.4: channel i of a setting, as AUXV: asked by AUXV?i, sent back as AUXVi, and the reply
abbrev pub channelled : List ℕ → ℕ → List Location → Address
channelled name i held =
    record {
      query = name ++ (question_mark ∷ plain i);
      set = λ reply. name ++ (plain i ++ comma ∷ reply);
      holds = held;
    }

-- §3.2: every setting, channel and enable, by what the names mean
pub data IsSetting : Address → Type 0 where
  -- §3.3: a setting without channels
  alone : (name : List ℕ) (entry : ℕ) → meaning_of name ≡ Some (Setting entry) →
      IsSetting (plainly name (at_entry entry))
  -- §5.4: channel i of a setting with one value for each channel
  channel : (name : List ℕ) (base channels i : ℕ) → meaning_of name ≡ Some (Channel base channels) →
      1 ≤ i → i ≤ channels → IsSetting (channelled name i (at_entry (base + (i - 1)) ∷ []))
  -- §5.4: channel i of a setting with two values for each channel
  pair : (name : List ℕ) (base channels i : ℕ) → meaning_of name ≡ Some (ChannelPair base channels) →
      1 ≤ i → i ≤ channels →
      IsSetting (channelled name i (at_entry (base + 2 * (i - 1)) ∷ at_entry (next_entry (base + 2 * (i - 1))) ∷ []))
  -- §10.3: an enable
  enable : (name : List ℕ) (which : Register) → meaning_of name ≡ Some (Enable which) →
      IsSetting (plainly name (at_enable which))

-- ---- values and their texts

-- one value of a state
abbrev pub value_at : State → Location → ℕ
value_at s (at_entry entry) = value_of s.settings entry
value_at s (at_enable which) = enable_of s.enables which

-- several values of a state
abbrev pub values_at : State → List Location → List ℕ
values_at s places = map (value_at s) places

-- §4.6 and §5.1: the text of one value: by the entry's decimals and sign; §10.3: an enable is a whole number
abbrev pub text_at : State → Location → List ℕ
text_at s (at_entry entry) = written entry (value_of s.settings entry)
text_at s (at_enable which) = plain (enable_of s.enables which)

-- §4.6: several texts with commas between them
abbrev pub joined : List (List ℕ) → List ℕ
joined [] = []
joined (x ∷ []) = x
joined (x ∷ y ∷ more) = x ++ comma ∷ joined (y ∷ more)

-- §5.1: the reply of a setting's query, without its end
abbrev pub reply_to : Address → State → List ℕ
reply_to a s = joined (map (text_at s) a.holds)

-- ---- the claim

-- §1.4: a module that there can be, with its traces, that 11 and 9 do not refuse
pub record Ready (m : Module) (one two : List ℕ) : Type 0 where
  pub fits : ModuleFits m
  pub passes : guard_of m (length one) (length two) ≡ done

-- §1.5: a call that answers 0, writes these reply bytes and changes nothing
abbrev pub answered : List ℕ → Module → List ℕ → List ℕ → Call
answered out m one two = record { after = m; one = one; two = two; out = out; report = report_of passed (length out) }

-- §12.3: the settings that a state can refuse by 3
pub data CanRefuse : List Location → Type 0 where
  -- §6.3 and §6.4: FREQ
  frequency : CanRefuse (at_entry freq ∷ [])
  -- §6.3: HARM
  harmonic : CanRefuse (at_entry harm ∷ [])
  -- §6.3: FMOD
  reference : CanRefuse (at_entry fmod ∷ [])
  -- §6.6: OFLT
  constant : CanRefuse (at_entry oflt ∷ [])
  -- §7.5: SEND
  end : CanRefuse (at_entry send ∷ [])

-- §5.4: no other value changes but the time constant, which shortens where the frequency range becomes upper (§6.7)
abbrev pub OthersStay : List Location → State → State → Type 0
OthersStay places before after =
    (p : Location) → (Memᴰ p places → ⊥) → (p ≡ at_entry oflt → ⊥) → value_at after p ≡ value_at before p

-- §4.7: what comes of sending values back to a module: they are set, with no reply and no trace point changed; §12.3:
-- or, where its state does not allow them, refusal 3 at the line's first command, with its error bit and nothing else
pub data SentBack (places : List Location) (values : List ℕ) (t : Module) (one two : List ℕ) : Call → Type 0 where
  taken : (after : Module) → after.queue ≡ t.queue → values_at after.state places ≡ values →
      OthersStay places t.state after.state →
      SentBack places values t one two (silent (report_of passed 0) after one two)
  refused : CanRefuse places →
      SentBack places values t one two
      (silent (report_of (refused_at NotAllowed 1) 0)
      (record { state = with_error_bit NotAllowed t.state; queue = t.queue }) one two)

-- §6.1: FREQ? replies the frequency in force, which is FREQ's own value in internal mode
abbrev pub Internal : Address → State → Type 0
Internal a s = a.holds ≡ at_entry freq ∷ [] → is_internal s.settings ≡ true

-- §7.5: SEND is set only while storage is reset
abbrev pub Settable : Address → State → Type 0
Settable a s = a.holds ≡ at_entry send ∷ [] → is_reset s.acquisition.storage ≡ true

-- §4.7: a setting's query and its reply:
-- - asked, with room for it, the call writes exactly the reply and the port's end (§11.3), and changes nothing;
-- - sent back to any module, it sets the same values there or is refused by 3 (§12.3);
-- - sent back to the module that replied, it is taken and changes nothing
pub record RoundTrip (a : Address) (m : Module) (one two : List ℕ) : Type 0 where
  pub asked : (room : ℕ) → length (reply_to a m.state) + 1 ≤ room →
      line_call room a.query m one two
      ≡ answered (reply_to a m.state ++ (terminator_of m.state.installation.port ∷ [])) m one two
  pub sent : (room : ℕ) (t : Module) (first second : List ℕ) → Ready t first second →
      SentBack a.holds (values_at m.state a.holds) t first second
      (line_call room (a.set (reply_to a m.state)) t first second)
  pub back : Settable a m.state → (room : ℕ) →
      line_call room (a.set (reply_to a m.state)) m one two ≡ answered [] m one two

-- §4.7: demand 2: every setting makes the round trip, in every module that 11 and 9 let pass (§1.4)
abbrev pub Demand2 : Type 0
Demand2 =
    (a : Address) → IsSetting a → (m : Module) (one two : List ℕ) → Ready m one two → Internal a m.state →
    RoundTrip a m one two
