-- The line that the programs write for a verdict of the script check, byte by byte: §14.3.
use Rattle.std.specs.Prelude.{ℕ, List, [], ◌∷◌, ◌++◌, take}
use Rattle.split.specs.Ascii.{bytes}
use Rattle.format.specs.Text.{plain}
use Rattle.check_input.specs.Bytes.{line_feed}
use Rattle.verdict.specs.Numbers.{VerdictNumbers, ok, no, verdict_numbers}
use Rattle.verdict.specs.Verdict.{Verdict}
use Rattle.check_input.specs.declared.verdict_line.VerdictLine.{VerdictLine}

-- the byte " "
abbrev pub space : ℕ
space = 0x20

-- §14.3: LF, which ends the line
abbrev pub end_of_line : List ℕ
end_of_line = line_feed ∷ []

-- §14.3: a space and a whole number, its digits and no zero in front
abbrev pub spaced : ℕ → List ℕ
spaced n = space ∷ plain n

-- §14.3: one line: `ok`, or `no` and the three numbers: line, place, refusal
unfoldable pub said_text : VerdictNumbers → List ℕ
said_text ok = bytes "ok" ++ end_of_line
said_text (no line place refusal) = bytes "no" ++ (spaced line ++ (spaced place ++ (spaced refusal ++ end_of_line)))

-- §14.3: the same of a verdict, by its numbers
abbrev pub verdict_text : Verdict → List ℕ
verdict_text v = said_text (verdict_numbers v)

-- the bytes of the code's line, up to its length
abbrev pub line_bytes : VerdictLine → List ℕ
line_bytes l = take l.len l.bytes
