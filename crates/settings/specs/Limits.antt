-- The limits that several rules name, each written here alone: the capacity of the traces (§1.2), frequencies (§5.1,
-- §6.1, §6.3, §6.5) and time constants (§6.6).
use Rattle.std.specs.Prelude.{ℕ, ◌*◌, Bool, ◌&&◌, leb}

-- §1.2: the least points of a trace
abbrev pub capacity_least : ℕ
capacity_least = 1

-- §1.2: the most points of a trace
abbrev pub capacity_most : ℕ
capacity_most = 16383

-- §1.2: whether a number may be the capacity (a term of document 01): the length of both traces
abbrev pub capacity_fits : ℕ → Bool
capacity_fits capacity = leb capacity_least capacity && leb capacity capacity_most

-- §5.3 and §6.1: frequencies are counted in units of 0.1 mHz
abbrev pub hertz : ℕ → ℕ
hertz n = n * 10000

-- §5.1 and §9.3: the lowest FREQ and external frequency, 0.001 Hz
abbrev pub frequency_low : ℕ
frequency_low = 10

-- §5.1 and §9.3: the highest FREQ and external frequency, 102 kHz
abbrev pub frequency_high : ℕ
frequency_high = hertz 102000

-- §5.1 and §6.1: FREQ and the external frequency at start, 1 kHz
abbrev pub frequency_start : ℕ
frequency_start = hertz 1000

-- §6.3: the highest detection frequency, 102 kHz: a rule of its own beside FREQ's range
abbrev pub detection_limit : ℕ
detection_limit = hertz 102000

-- §6.5: the lowest detection frequency inside the band (a term of Req 02), 199.21 Hz
abbrev pub band_low : ℕ
band_low = 1992100

-- §6.5: the highest one, 203.12 Hz
abbrev pub band_high : ℕ
band_high = 2031200

-- §6.6 and §6.7: the longest time constant in the upper range, 30 s
abbrev pub upper_constant_most : ℕ
upper_constant_most = 13
