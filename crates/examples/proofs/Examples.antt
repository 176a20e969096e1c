-- The table's rows, proved together by computation: each side of a row computes to the other. Assumes nothing.
use mathlib.Core.Path.{◌≡◌, refl}
use mathlib.Core.List.{List, [], ◌∷◌, map}
use lib.Count.{count_leading_zeros}
use Rattle.split.specs.Divide.{span, on_head, parts}
use Rattle.number.specs.Number.{all_digits, begins, unsigned, is_mantissa, is_number}
use Rattle.number.specs.Value.{decimal_after, exact_of, in_range, argument_of}
use Rattle.line_text.specs.Clean.{cleaned}
use Rattle.mnemonic.specs.Names.{meaning_in}
use Rattle.point.specs.Single.{pattern}
use Rattle.point.specs.Point.{magnitude_of, is_legal, highest, single_of, float_of}
use Rattle.point.specs.Bytes.{low_first, little_endian}
use Rattle.format.specs.Text.{padded, digit_count_in, plain, fixed, sign, signed_text}
use Rattle.settings.specs.Table as settings
use Rattle.settings.specs.Frequency.{step_by, in_force, detection_of, range_at, range_effect_of}
use Rattle.settings.specs.Setting.{turned_at, setting_of, step_of}
use Rattle.settings.specs.Valid.{value_valid, every, values_valid, valid_settings}
use Rattle.command.specs.Arguments.{arguments}
use Rattle.command.specs.Parsed.{one, three, set_setting, query_status, query_trace, alone, set_with, query_with}
use Rattle.command.specs.Parsed.{parsed_of}
use Rattle.storage.specs.Storage as storage
use Rattle.status.specs.Bits.{meets}
use Rattle.status.specs.Status as status
use Rattle.reply_buffer.specs.Buffer.{fits_in, word_at, formed, point_bytes}
use Rattle.state.specs.State.{start_state, range_settled, settled, with_error_bit, sampling_of}
use Rattle.state.specs.Storing.{sampled_by, stored_in}
use Rattle.state.specs.Valid.{installation_valid, latest_valid, parts_valid, valid_state}
use Rattle.precondition.specs.Allowed.{stays_within_limit, value_allowed, set_allowed, query_allowed, is_allowed}
use Rattle.effect.specs.Effect.{set_in, restored_by, settings_after, storage_by, storage_after, restarted_by, acquisition_by}
use Rattle.effect.specs.Effect.{acquisition_after, registers_asked, state_after}
use Rattle.reply.specs.Text.{value_now, value_text, status_of, text_of}
use Rattle.reply.specs.Reply.{terminated_text, trace_reply, query_reply, reply_of}
use Rattle.outcome.specs.Answer.{first_of, is_no_room, drops, numbered, numbers_of}
use Rattle.line.specs.Perform.{done_by, performed, command_of}
use Rattle.line.specs.Line as line
use Rattle.event.specs.Event.{latest_taken, event_of}
use Rattle.queue.specs.Queue as queue
use Rattle.module.specs.Start.{installation_known, traces_fit, fresh_module}
use Rattle.module.specs.Module.{valid_module, guard_of}
use Rattle.lockin.specs.Start.{start_call}
use Rattle.lockin.specs.Calls.{guarded, line_end, whole_end, whole_line, line_call, event_call}
use Rattle.extreme_courses.specs.Extremes.{resets, measured_high, triggered_high, before_line, kind_refusal, text_refusal}
use Rattle.extreme_courses.specs.Extremes.{kind_after, text_after}
use Rattle.script.specs.Check.{answer_at, texts_answer, texts_after, line_answer, found_by, finding, without_last, check_of}
use Rattle.verdict.specs.Numbers.{verdict_numbers}
use Rattle.examples.specs.Examples.{line_seen, low16, point_word, float_seen, seen_of, Row, example_table, AllRows}
use Rattle.examples.specs.Examples.{Examples}

-- rows that show, one by one, what they say
all_rows : (rows : List Row) → map (λ r. seen_of r.example) rows ≡ map (λ r. r.shows) rows → AllRows rows
all_rows [] e = tt
all_rows (r ∷ rows) e =
    let here : seen_of r.example ≡ r.shows = cc in
    let later : map (λ r. seen_of r.example) rows ≡ map (λ r. r.shows) rows = cc in
    (here, all_rows rows later)

-- every definition that an example runs through is unfolded, from the text of a number up to the calls
pub examples : Examples
unfolding span on_head parts all_digits begins unsigned is_mantissa is_number decimal_after exact_of in_range argument_of
    cleaned meaning_in arguments one three set_setting query_status query_trace alone set_with query_with
    parsed_of
    padded digit_count_in plain fixed sign signed_text
    count_leading_zeros pattern magnitude_of is_legal highest single_of float_of low_first little_endian fits_in word_at formed
    point_bytes
    settings.table settings.turned_of settings.row_of settings.start_settings step_by in_force detection_of range_at
    range_effect_of turned_at setting_of
    step_of
    value_valid every values_valid valid_settings
    storage.is_reset storage.is_running storage.is_done storage.started_of storage.next_slot storage.held_after
    storage.full_in_one_shot storage.stored_of
    storage.readied_of storage.trigger_stores storage.triggered_of storage.oldest_of storage.holds_of storage.slots_kept
    storage.done_kept storage.reset_kept
    storage.is_valid meets status.is_valid status.register_of status.with_register status.cleared_of
    start_state range_settled settled with_error_bit sampling_of sampled_by stored_in installation_valid latest_valid parts_valid
    valid_state
    stays_within_limit value_allowed set_allowed query_allowed is_allowed
    set_in restored_by settings_after storage_by storage_after restarted_by acquisition_by acquisition_after
    registers_asked state_after
    value_now value_text status_of text_of terminated_text trace_reply query_reply reply_of
    done_by performed command_of first_of is_no_room drops line.after_of line.after_command line.run_all line.line_of
    latest_taken event_of queue.no_end queue.is_valid
    installation_known traces_fit fresh_module start_call
    numbered numbers_of valid_module guard_of guarded line_end whole_end whole_line line_call event_call
    resets measured_high triggered_high before_line kind_refusal text_refusal kind_after text_after answer_at texts_answer
    texts_after
    line_answer found_by finding without_last check_of
    line_seen low16 point_word float_seen verdict_numbers seen_of example_table
examples = all_rows example_table refl
