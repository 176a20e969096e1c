-- The settings table (§5.1), row by row, and the values that settings have.
use Rattle.std.specs.Prelude.{ℕ, ◌+◌, ◌-◌, ◌%◌, true, false, cond, List, [], ◌∷◌, map, ltb, get_or, set}
use Rattle.settings.specs.Limits.{frequency_low, frequency_high, frequency_start}
use Rattle.settings.specs.declared.Row.{Row}
use Rattle.settings.specs.declared.Settings.{Settings}

-- Units: 0.01 for PHAS and OEXP x, 0.001 for SLVL and AUXV, 0.0001 for FREQ, 1 for every other. A value of x units is
-- kept as x + bias, so that none is negative, and a row's low, high, least, most and start are kept so too.

-- §5.1: a row whose arguments are all kept as they are, on a step of its own
abbrev pub plain_row : (bias low high step decimals start : ℕ) → Row
plain_row bias low high step decimals start =
    record {
      bias = bias;
      low = low;
      high = high;
      least = low;
      most = high;
      step = step;
      scales = false;
      turns = false;
      decimals = decimals;
      start = start;
    }

-- §5.1: whole numbers from low to high
abbrev pub whole_row : ℕ → ℕ → ℕ → Row
whole_row low high start = plain_row 0 low high 1 0 start

-- §5.1: from -end to end, start 0
abbrev pub signed : (decimals end : ℕ) → Row
signed decimals end = plain_row end 0 (end + end) 1 decimals end

-- §5.2: a whole turn, 360.00
abbrev pub turn : ℕ
turn = 36000

-- §5.2: half a turn, 180.00
abbrev pub half_turn : ℕ
half_turn = 18000

-- §5.1 and §5.2: the phase: -360.00 to 729.99, start 0; a state keeps -179.99 to 180.00; the bias is a whole turn
abbrev pub phase : Row
phase =
    record {
      bias = turn;
      low = turn - turn;
      high = turn + 72999;
      least = turn - half_turn + 1;
      most = turn + half_turn;
      step = 1;
      scales = false;
      turns = true;
      decimals = 2;
      start = turn;
    }

-- §5.1 and §5.3: the frequency: its step goes by the value (`Frequency.step_by`), and is never finer than 1
abbrev pub frequency : Row
frequency =
    record {
      bias = 0;
      low = frequency_low;
      high = frequency_high;
      least = frequency_low;
      most = frequency_high;
      step = 1;
      scales = true;
      turns = false;
      decimals = 4;
      start = frequency_start;
    }

-- §5.1: the level of the sine output: 0.004 to 5.000 V by 0.002, start 1
abbrev pub level : Row
level = plain_row 0 4 5000 2 3 1000

-- §5.2: a phase brought by whole turns into the range that is kept
unfoldable pub turned_of : ℕ → ℕ
turned_of x = phase.least + (x + (turn - phase.least)) % turn

-- §5.1: the table: a row for each entry, in the order of the entries
unfoldable pub table : List Row
table =
    phase  -- PHAS: -360.00 to 729.99 by 0.01
    ∷ whole_row 0 1 1  -- FMOD: 0 external, 1 internal; start 1
    ∷ frequency  -- FREQ: 0.001 to 102000 Hz; start 1000 (step by value)
    ∷ whole_row 0 2 0  -- RSLP: 0-2
    ∷ whole_row 1 19999 1  -- HARM: 1-19999; start 1
    ∷ level  -- SLVL: 0.004 to 5.000 V by 0.002; start 1
    ∷ whole_row 0 3 0  -- ISRC: 0-3
    ∷ whole_row 0 3 0  -- ILIN: 0-3
    ∷ whole_row 0 3 1  -- OFSL: 0-3; start 1
    ∷ whole_row 0 1 0  -- IGND: 0-1
    ∷ whole_row 0 1 0  -- ICPL: 0-1
    ∷ whole_row 0 1 0  -- SYNC: 0-1
    ∷ whole_row 0 26 26  -- SENS: 0-26; start 26
    ∷ whole_row 0 2 2  -- RMOD: 0-2; start 2
    ∷ whole_row 0 19 8  -- OFLT: 0-19; start 8
    ∷ whole_row 0 4 0  -- DDEF 1 j: 0-4
    ∷ whole_row 0 2 0  -- DDEF 1 k: 0-2
    ∷ whole_row 0 4 0  -- DDEF 2 j
    ∷ whole_row 0 2 0  -- DDEF 2 k
    ∷ whole_row 0 1 0  -- FPOP 1 j: 0-1
    ∷ whole_row 0 1 0  -- FPOP 2 j
    ∷ signed 2 10500  -- OEXP 1 x: -105.00 to 105.00 by 0.01
    ∷ whole_row 0 2 0  -- OEXP 1 j: 0-2
    ∷ signed 2 10500  -- OEXP 2 x
    ∷ whole_row 0 2 0  -- OEXP 2 j
    ∷ signed 2 10500  -- OEXP 3 x
    ∷ whole_row 0 2 0  -- OEXP 3 j
    ∷ signed 3 10500  -- AUXV 1 x: -10.500 to 10.500 by 0.001
    ∷ signed 3 10500  -- AUXV 2 x
    ∷ signed 3 10500  -- AUXV 3 x
    ∷ signed 3 10500  -- AUXV 4 x
    ∷ whole_row 0 14 4  -- SRAT: 0-14; start 4
    ∷ whole_row 0 1 1  -- SEND: 0-1; start 1
    ∷ whole_row 0 1 0  -- TSTR: 0-1
    ∷ []

-- PHAS, the phase
abbrev pub phas : ℕ
phas = 0

-- FMOD, the reference's mode
abbrev pub fmod : ℕ
fmod = 1

-- FREQ, the internal frequency
abbrev pub freq : ℕ
freq = 2

-- RSLP, the reference's slope
abbrev pub rslp : ℕ
rslp = 3

-- HARM, the harmonic
abbrev pub harm : ℕ
harm = 4

-- SLVL, the level of the sine output
abbrev pub slvl : ℕ
slvl = 5

-- ISRC, the input's source
abbrev pub isrc : ℕ
isrc = 6

-- ILIN, the line filters
abbrev pub ilin : ℕ
ilin = 7

-- OFSL, the filter's slope
abbrev pub ofsl : ℕ
ofsl = 8

-- IGND, the input's shield
abbrev pub ignd : ℕ
ignd = 9

-- ICPL, the input's coupling
abbrev pub icpl : ℕ
icpl = 10

-- SYNC, the synchronous filter
abbrev pub sync : ℕ
sync = 11

-- SENS, the sensitivity
abbrev pub sens : ℕ
sens = 12

-- RMOD, the reserve
abbrev pub rmod : ℕ
rmod = 13

-- OFLT, the time constant
abbrev pub oflt : ℕ
oflt = 14

-- DDEF of channel 1: j, behind it k, and then channel 2
abbrev pub ddef1j : ℕ
ddef1j = 15

-- FPOP of output 1, behind it that of output 2
abbrev pub fpop1 : ℕ
fpop1 = 19

-- OEXP of channel 1: x, behind it j, and then channels 2 and 3
abbrev pub oexp1x : ℕ
oexp1x = 21

-- AUXV of output 1, behind it those of outputs 2 to 4
abbrev pub auxv1 : ℕ
auxv1 = 27

-- SRAT, the sample rate
abbrev pub srat : ℕ
srat = 31

-- SEND, the end of storage
abbrev pub send : ℕ
send = 32

-- TSTR, the start by a trigger
abbrev pub tstr : ℕ
tstr = 33

-- §5.1: the number of entries: one for each channel and value of a setting
abbrev pub entries : ℕ
entries = tstr + 1

-- §5.1: the entry behind an entry of the table, which holds the second value of a pair (DDEF, OEXP)
unfoldable pub next_entry : ℕ → ℕ
next_entry entry = cond (ltb entry entries) (entry + 1) entries

-- the row past the table: no value is taken
abbrev pub no_row : Row
no_row = whole_row 1 0 0

-- §5.1: the row of an entry
unfoldable pub row_of : ℕ → Row
row_of entry = get_or table entry no_row

-- a row's value at start
abbrev pub start_value : Row → ℕ
start_value r = r.start

-- §1.2, §5.1 and §11.2: every setting at its start, as after *RST
unfoldable pub start_settings : Settings
start_settings = record { values = map start_value table }

-- the value of an entry, 0 past the table
abbrev pub value_of : Settings → ℕ → ℕ
value_of s entry = get_or s.values entry 0

-- §5.4: settings with another value at an entry, the other entries as they were; unchanged past the table
abbrev pub with_value : Settings → ℕ → ℕ → Settings
with_value s entry value = record { values = set s.values entry value }
