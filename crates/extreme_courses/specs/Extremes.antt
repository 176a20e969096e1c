-- The two courses that the check follows, under one settings value: §13.4, §13.5 and §13.9.
use Rattle.std.specs.Prelude.{ℕ, ◌/◌, Bool, false, cond, ◌&&◌, ◌||◌, Err, Some, None, Ok}
use Rattle.outcome.specs.declared.Refusal.TheVariants.{NotAllowed, NoReset}
use Rattle.outcome.specs.Code.{Outcome, done}
use Rattle.settings.specs.Table.{harm, start_settings, value_of}
use Rattle.settings.specs.Frequency.{is_internal}
use Rattle.settings.specs.Limits.{detection_limit}
use Rattle.settings.specs.declared.Settings.{Settings}
use Rattle.storage.specs.Storage.{triggered_of}
use Rattle.command.specs.declared.Kind.{Kind}
use Rattle.command.specs.declared.Kind.TheVariants.{Set, Query, Act}
use Rattle.command.specs.Parsed.{Parsed}
use Rattle.state.specs.State.{at_frequency, with_storage, sampling_of, start_acquisition, range_settled}
use Rattle.state.specs.declared.Acquisition.{Acquisition}
use Rattle.precondition.specs.Allowed.{is_allowed}
use Rattle.effect.specs.Effect.{is_rst, settings_after, acquisition_after}
use Rattle.extreme_courses.specs.declared.Model.{Model}
use Rattle.extreme_courses.specs.declared.Extremes.{Extremes}

-- §13.4: whether a command is *RST
unfoldable pub resets : Kind → Bool
resets (Set a) = false
resets (Query q) = false
resets (Act a) = is_rst a

-- §13.9: before each line the high course measures the highest frequency that is taken, the limit over the harmonic,
-- where FMOD is 0 ..
unfoldable pub measured_high : Settings → Acquisition → Acquisition
measured_high s m =
    cond (is_internal s) m (range_settled s (at_frequency (detection_limit / value_of s harm) m))

-- §13.9: .. and then has a trigger
unfoldable pub triggered_high : ℕ → Settings → Acquisition → Acquisition
triggered_high capacity s m = with_storage (triggered_of m.storage capacity (sampling_of s)).storage m

-- §13.9: what comes before a line: nothing in the low course, the two events in the high one
unfoldable pub before_line : Model → Extremes → Extremes
before_line model b =
    record {
      begun = b.begun;
      settings = b.settings;
      low = b.low;
      high = triggered_high model.capacity b.settings (measured_high b.settings b.high);
    }

-- §13.4: before *RST has begun the script every other command is 7; §13.5: afterwards 3 where one of the two courses
-- refuses
unfoldable pub kind_refusal : Kind → Extremes → Outcome
kind_refusal kind b =
    cond b.begun
    (cond (is_allowed b.settings b.low kind && is_allowed b.settings b.high kind) done
    (Err NotAllowed))
    (cond (resets kind) done (Err NoReset))

-- §13.4 and §13.5: the same of a command as it is read: 1 and 2 are its text's own, and an empty one is not refused
unfoldable pub text_refusal : Parsed → Extremes → Outcome
text_refusal (Ok None) b = done
text_refusal (Err r) b = Err (cond b.begun r NoReset)
text_refusal (Ok (Some c)) b = kind_refusal c.kind b

-- §13.9: both courses past a command that no course refuses
unfoldable pub kind_after : Model → Kind → Extremes → Extremes
kind_after model kind b =
    let x = settings_after kind b.settings in
    record {
      begun = b.begun || resets kind;
      settings = x;
      low = acquisition_after kind x b.low model.capacity;
      high = acquisition_after kind x b.high model.capacity;
    }

-- §13.9: what is carried past a command's text
unfoldable pub text_after : Model → Parsed → Extremes → Extremes
text_after model (Ok None) b = b
text_after model (Err r) b = b
text_after model (Ok (Some c)) b = kind_after model c.kind b

-- §13.4 and §13.9: what is carried into a script: *RST has not begun it, and all else is as *RST leaves it
abbrev pub start_extremes : Extremes
start_extremes = record { begun = false; settings = start_settings; low = start_acquisition; high = start_acquisition }
