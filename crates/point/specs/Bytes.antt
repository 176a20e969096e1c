-- The bytes of a word, low byte first (§8.1), and the number that bytes make. Assumes nothing.
use Rattle.std.specs.Prelude.{ℕ, zero, suc, ◌+◌, ◌*◌, ◌/◌, ◌%◌, List, [], ◌∷◌}

-- the k lowest bytes of x, the lowest of them first
unfoldable pub low_first : ℕ → ℕ → List ℕ
low_first zero x = []
low_first (suc k) x = x % 0x100 ∷ low_first k (x / 0x100)

-- §8.1: the four bytes of a 32-bit word, as traces are sent
unfoldable pub little_endian : ℕ → List ℕ
little_endian x = low_first 4 x

-- the number that bytes make, the lowest of them first
unfoldable pub bytes_number : List ℕ → ℕ
bytes_number [] = 0
bytes_number (b ∷ bs) = b + 0x100 * bytes_number bs
