-- Whether the state allows a command, refusal 3 (§12.3): §6.3, §6.4, §6.6, §7.5 and §8.4.
use Rattle.std.specs.Prelude.{ℕ, Bool, true, cond, ◌&&◌, eqb}
use Rattle.settings.specs.Table.{fmod, freq, harm, oflt, send, with_value}
use Rattle.settings.specs.Frequency.{is_internal, detection_of, within_limit, time_constant_stands}
use Rattle.settings.specs.declared.Settings.{Settings}
use Rattle.storage.specs.Storage.{is_reset, holds_of}
use Rattle.command.specs.declared.SetArgument.{SetArgument}
use Rattle.command.specs.declared.SetArgument.TheVariants as set
use Rattle.command.specs.declared.QueryArgument.{QueryArgument}
use Rattle.command.specs.declared.QueryArgument.TheVariants as query
use Rattle.command.specs.declared.Kind.{Kind}
use Rattle.command.specs.declared.Kind.TheVariants.{Set, Query, Act}
use Rattle.state.specs.declared.Acquisition.{Acquisition}

-- §6.3: whether the detection frequency is within its limit with another value at an entry
unfoldable pub stays_within_limit : Settings → Acquisition → ℕ → ℕ → Bool
stays_within_limit s m entry v = within_limit (detection_of (with_value s entry v) m.external)

-- §6.4: FREQ in internal mode only; §6.3: FREQ, HARM and FMOD only within the limit; §6.6: OFLT by the time constants
-- that may stand in the range; §7.5: SEND only while storage is reset; any other setting always
unfoldable pub value_allowed : Settings → Acquisition → ℕ → ℕ → Bool
value_allowed s m entry v =
    cond (eqb entry freq) (is_internal s && stays_within_limit s m entry v)
    (cond (eqb entry harm) (stays_within_limit s m entry v)
    (cond (eqb entry fmod) (stays_within_limit s m entry v)
    (cond (eqb entry oflt) (time_constant_stands m.range v)
    (cond (eqb entry send) (is_reset m.storage) true))))

-- §12.3: whether a set is allowed: one value by its entry, pairs and enables always
unfoldable pub set_allowed : Settings → Acquisition → SetArgument → Bool
set_allowed s m (set.Value entry v) = value_allowed s m entry v
set_allowed s m (set.Pair entry v w) = true
set_allowed s m (set.Enable r v) = true
set_allowed s m (set.EnableBit r i v) = true

-- §8.4: a trace is read only as far as points are held; any other query is allowed always
unfoldable pub query_allowed : Acquisition → QueryArgument → Bool
query_allowed m (query.Trace form t bin count) = holds_of m.storage bin count
query_allowed m (query.Value entry) = true
query_allowed m (query.Pair entry) = true
query_allowed m (query.Enable r) = true
query_allowed m (query.EnableBit r i) = true
query_allowed m (query.Status r) = true
query_allowed m (query.StatusBit r i) = true
query_allowed m query.Identity = true
query_allowed m query.Points = true

-- §12.3: whether a command is allowed; where it is not, 3 refuses it. Actions are allowed always
unfoldable pub is_allowed : Settings → Acquisition → Kind → Bool
is_allowed s m (Set a) = set_allowed s m a
is_allowed s m (Query q) = query_allowed m q
is_allowed s m (Act a) = true
