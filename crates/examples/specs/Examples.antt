-- The table of examples, each with what it shows, and the statement that the public calls show it: §4.3, §4.4, §4.5,
-- §5.2, §5.3, §6.3, §6.5, §6.6, §6.7, §6.8, §8.2, §13.7 and §13.8.
use Rattle.std.specs.Prelude.{ℕ, ◌+◌, ◌-◌, ◌*◌, ◌≡◌, List, [], ◌∷◌, ◌++◌, length, replicate}
use Prim.Native.String.{String}
use Rattle.split.specs.Ascii.{bytes}
use Rattle.queue.specs.Queue.{gpib, lf}
use Rattle.settings.specs.Table.{phas, freq, harm, oflt, srat, row_of, start_settings, with_value}
use Rattle.settings.specs.declared.Settings.{Settings}
use Rattle.event.specs.declared.Event.TheVariants.{Latest}
use Rattle.outcome.specs.Answer.{numbers_of}
use Rattle.module.specs.declared.Module.{Module}
use Rattle.outcome.specs.declared.ReportNumbers.{ReportNumbers}
use Rattle.lockin.specs.Start.{start_call}
use Rattle.lockin.specs.Calls.{line_call, event_call}
use Rattle.extreme_courses.specs.Model.{model_of}
use Rattle.script.specs.Check.{check_of}
use Rattle.verdict.specs.Numbers.{VerdictNumbers, ok, no, verdict_numbers}

-- ---- the examples

-- §7.1: m, a whole number with its sign
pub data SignedWhole : Type 0 where
  -- not below zero
  plus : ℕ → SignedWhole
  -- below zero
  minus : ℕ → SignedWhole

-- an example
pub data Example : Type 0 where
  -- §2.4: a line handed over whole
  line : (text : String) → Example
  -- §8.2: the float that TRCB sends for a point
  trcb : (m : SignedWhole) (e : ℕ) → Example
  -- §13.1: a script of two lines at a capacity
  script : (capacity : ℕ) (first second : String) → Example

-- what is seen of an example
pub data Seen : Type 0 where
  -- §1.5: of a line: its refusal, place and length, the settings after it and the reply bytes
  answer : ReportNumbers → (kept : Settings) (reply : List ℕ) → Seen
  -- §13.7 and §13.8: of a script: whether it passes, else its line, place and refusal
  verdict : VerdictNumbers → Seen

-- ---- what is seen, by the definitions that the public calls' contracts cite

-- §1.2: the module that each line starts from: GPIB, serial number 42, capacity 8
abbrev pub fresh : Module
fresh = (start_call 42 gpib 8 8).after

-- its traces
abbrev pub zeros : List ℕ
zeros = replicate 8 0

-- room for every reply of the table
abbrev pub room : ℕ
room = 64

-- §2.4: a line handed over whole
unfoldable pub line_seen : Module → (one two : List ℕ) → String → Seen
line_seen m one two text =
    let c = line_call room (bytes text) m one two in
    answer (numbers_of c.report) c.after.state.settings c.out

-- §7.1: m as 16 bits, in two's complement
unfoldable pub low16 : SignedWhole → ℕ
low16 (plus m) = m
low16 (minus m) = 0x1_0000 - m

-- §7.1: the point (m, e) as a word: e is its third byte
unfoldable pub point_word : SignedWhole → ℕ → ℕ
point_word m e = e * 0x1_0000 + low16 m

-- §9.1, §7.6 and §7.9: the point is the first of a new latest pair, is stored by TRIG at SRAT 14, and is then bin 0 of
-- trace 1
unfoldable pub float_seen : ℕ → Seen
float_seen word =
    let c = event_call (Latest word 0) fresh zeros zeros in
    line_seen c.after c.one c.two "SRAT 14;STRT;TRIG;TRCB?1,0,1"

-- what is seen of an example; §13.1: an LF ends the first line of a script, and nothing the second
unfoldable pub seen_of : Example → Seen
seen_of (line text) = line_seen fresh zeros zeros text
seen_of (trcb m e) = float_seen (point_word m e)
seen_of (script capacity first second) =
    verdict (verdict_numbers (check_of (model_of capacity) (bytes first ++ (lf ∷ bytes second))))

-- ---- what the table says

-- §5.1: settings with another value at an entry, in the entry's units: 0.01 for PHAS, 0.0001 for FREQ, 1 for HARM, OFLT
-- and SRAT
abbrev pub keeping : ℕ → ℕ → Settings → Settings
keeping entry x s = with_value s entry ((row_of entry).bias + x)

-- §11.3: a reply in text, with its end
abbrev pub text : String → List ℕ
text s = bytes s ++ (lf ∷ [])

-- §1.5: nothing is refused: the answer is 0
abbrev pub passes : Settings → List ℕ → Seen
passes kept reply = answer (record { refusal = 0; place = 0; length = length reply }) kept reply

-- §2.7: a command is refused by a number at its place, and nothing is replied
abbrev pub refuses : (refusal place : ℕ) → Settings → Seen
refuses refusal place kept = answer (record { refusal = refusal; place = place; length = 0 }) kept []

-- §8.1 and §8.2: a point is stored at SRAT 14, and TRCB sends its four bytes
abbrev pub sends : (a b c d : ℕ) → Seen
sends a b c d = passes (keeping srat 14 start_settings) (a ∷ b ∷ c ∷ d ∷ [])

-- a row: an example, and what it has to show
pub record Row : Type 0 where
  pub example : Example
  pub shows : Seen

-- an example with what it shows
abbrev pub row : Example → Seen → Row
row e s = record { example = e; shows = s }

-- the examples; where one sets a value, it is queried in the same line
unfoldable pub example_table : List Row
example_table =
    -- §5.2: minus half a turn becomes half a turn
    row (line "PHAS -180;PHAS?") (passes (keeping phas 18000 start_settings) (text "180.00"))
    -- §5.2: two turns are taken off; §4.3: the range is tested before rounding
    ∷ row (line "PHAS 729.99;PHAS?") (passes (keeping phas 999 start_settings) (text "9.99"))
    ∷ row (line "PHAS 729.991") (refuses 2 1 start_settings)
    -- §5.3: the step goes by the value; §4.4: a half is rounded away from zero
    ∷ row (line "FREQ 1234.56;FREQ?") (passes (keeping freq 12346000 start_settings) (text "1234.6000"))
    ∷ row (line "FREQ 12345.5;FREQ?") (passes (keeping freq 123460000 start_settings) (text "12346.0000"))
    -- §6.3: the detection frequency has a limit; §4.5: a harmonic is whole
    ∷ row (line "HARM 102") (passes (keeping harm 102 start_settings) [])
    ∷ row (line "HARM 103") (refuses 3 1 start_settings)
    ∷ row (line "HARM 5.4") (refuses 2 1 start_settings)
    -- §6.6: a long time constant is allowed in the lower range; §6.5: a frequency below the band leads there, and one
    -- inside it does not
    ∷ row (line "FREQ 100;HARM 2;OFLT 14")
    (passes (keeping oflt 14 (keeping harm 2 (keeping freq 1000000 start_settings))) [])
    ∷ row (line "FREQ 100.01;HARM 2;OFLT 14")
    (passes (keeping oflt 14 (keeping harm 2 (keeping freq 1000100 start_settings))) [])
    ∷ row (line "HARM 2;FREQ 100;OFLT 14") (refuses 3 3 (keeping freq 1000000 (keeping harm 2 start_settings)))
    -- §6.5: the band's ends are inside it: neither leads to another range, and the next step outside does
    ∷ row (line "FREQ 199.21;OFLT 14") (refuses 3 2 (keeping freq 1992100 start_settings))
    ∷ row (line "FREQ 199.2;OFLT 14") (passes (keeping oflt 14 (keeping freq 1992000 start_settings)) [])
    ∷ row (line "FREQ 199.2;FREQ 203.12;OFLT 14")
    (passes (keeping oflt 14 (keeping freq 2031200 start_settings)) [])
    ∷ row (line "FREQ 199.2;FREQ 203.13;OFLT 14") (refuses 3 3 (keeping freq 2031300 start_settings))
    -- §6.7 and §6.8: a fall sets LIA bit 4, a rise that shortens the time constant bits 4 and 5
    ∷ row (line "FREQ 199.2;LIAS?;OFLT 19;FREQ 203.13;OFLT?;LIAS?")
    (passes (keeping oflt 13 (keeping freq 2031300 start_settings)) (text "16" ++ text "13" ++ text "48"))
    -- §8.2: points as floats: 1, -1.5, the largest m, and the lowest point of all
    ∷ row (trcb (plus 1) 124) (sends 0x00 0x00 0x80 0x3F)
    ∷ row (trcb (minus 3) 123) (sends 0x00 0x00 0xC0 0xBF)
    ∷ row (trcb (plus 32767) 124) (sends 0x00 0xFE 0xFF 0x46)
    ∷ row (trcb (minus 32768) 236) (sends 0x00 0x00 0x00 0xFF)
    -- §7.9 and §8.4: two points stored are two to read, where the capacity is two
    ∷ row (script 2 "*RST;SRAT 14;STRT;TRIG;TRIG" "TRCB?1,0,2") (verdict ok)
    ∷ row (script 1 "*RST;SRAT 14;STRT;TRIG;TRIG" "TRCB?1,0,2") (verdict (no 2 1 3))
    ∷ []

-- every example of these rows shows what its row says
abbrev pub AllRows : List Row → Type 0
AllRows [] = Unit {0}
AllRows (r ∷ rs) = (seen_of r.example ≡ r.shows) × AllRows rs

-- §4.3, §4.4, §4.5, §5.2, §5.3, §6.3, §6.5, §6.6, §6.7, §6.8, §8.2, §8.4, §13.7 and §13.8: every example of the table
-- does, in one statement
abbrev pub Examples : Type 0
Examples = AllRows example_table
