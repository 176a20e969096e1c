-- The input byte by byte: what the programs hold in memory after each byte (§14.1, §14.2). That this is enough to say
-- what is to be said of the whole input is stated in Whole.antt.
use Rattle.std.specs.Prelude.{ℕ, ◌+◌, ◌-◌, ◌*◌, true, false, cond, List, [], ◌∷◌, ltb, eqb, length, set}
use Rattle.number.specs.Number.{is_digit}
use Rattle.settings.specs.Limits.{capacity_most}
use Rattle.check_input.specs.declared.bytes.Input.{Input}

-- §14.1: the byte that ends line one
abbrev pub line_feed : ℕ
line_feed = 0xA

-- what has been read, and the bytes that were lent for the script
pub record Memory : Type 0 where
  pub input : Input
  pub script : List ℕ

-- the two in one
abbrev pub memory : Input → List ℕ → Memory
memory input script = record { input = input; script = script }

-- nothing has been read
abbrev pub start_input : Input
start_input = record { ending = false; capacity = 0; len = 0 }

-- §14.1: the capacity after one more byte of line one: a number past every capacity stays, and what is no digit makes
-- one
unfoldable pub capacity_after : ℕ → ℕ → ℕ
capacity_after b capacity =
    cond (ltb capacity_most capacity) capacity (cond (is_digit b) (capacity * 10 + (b - 48)) (capacity_most + 1))

-- §14.1: after a byte of line one, or the LF that ends it
unfoldable pub line_one_after : ℕ → Input → Input
line_one_after b i =
    cond (eqb b line_feed)
    (record { ending = true; capacity = i.capacity; len = i.len })
    (record { ending = false; capacity = capacity_after b i.capacity; len = i.len })

-- §14.2: after a byte of the script, which is stored as far as there is room
unfoldable pub script_after : ℕ → Memory → Memory
script_after b h =
    let i = h.input in
    cond (ltb i.len (length h.script))
    (memory (record { ending = i.ending; capacity = i.capacity; len = i.len + 1 }) (set h.script i.len b))
    h

-- §14.1: after a byte of the input
unfoldable pub after_byte : ℕ → Memory → Memory
after_byte b h = cond h.input.ending (script_after b h) (memory (line_one_after b h.input) h.script)

-- §14.1: after some bytes of the input
unfoldable pub after_bytes : List ℕ → Memory → Memory
after_bytes [] h = h
after_bytes (b ∷ bs) h = after_bytes bs (after_byte b h)
