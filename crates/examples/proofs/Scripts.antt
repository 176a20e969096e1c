-- `*RST` alone passes at every legal capacity, an empty script at none. Assumes nothing.
use mathlib.Core.Path.{refl}
use Rattle.split.specs.Divide.{span, on_head, parts}
use Rattle.number.specs.Number.{begins}
use Rattle.line_text.specs.Clean.{cleaned}
use Rattle.mnemonic.specs.Names.{meaning_in}
use Rattle.command.specs.Arguments.{arguments}
use Rattle.command.specs.Parsed.{alone, set_with, parsed_of}
use Rattle.effect.specs.Effect.{restored_by, settings_after, acquisition_after}
use Rattle.extreme_courses.specs.Extremes.{resets, before_line, kind_refusal, text_refusal, kind_after, text_after}
use Rattle.script.specs.Check.{answer_at, texts_answer, texts_after, line_answer, found_by, finding, without_last, check_of}
use Rattle.examples.specs.Scripts.{AtEveryCapacity}

pub at_every-capacity : AtEveryCapacity
unfolding span on_head parts begins cleaned meaning_in arguments alone set_with parsed_of restored_by settings_after
    acquisition_after resets before_line kind_refusal text_refusal kind_after text_after answer_at texts_answer texts_after
    line_answer found_by finding without_last check_of
at_every-capacity model fits = record { reset_alone = rw fits refl; empty = rw fits refl }
