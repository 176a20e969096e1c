-- The four bytes of a word: each as a quotient of the word, and read back they give the word. Assumes nothing.
use Prim.Native.Nat.{ℕ, ◌/◌, ◌%◌, ◌^◌, ◌<◌}
use native.Mathlib.Omega.{arith}
use mathlib.Core.List.{[], ◌∷◌}
use mathlib.Core.Path.{◌≡◌}
use Rattle.point.specs.Bytes.{low_first, little_endian, bytes_number}

pub four_bytes : (x : ℕ) → x < 2 ^ 32 → little_endian x ≡ x % 256 ∷ x / 256 % 256 ∷ x / 65536 % 256 ∷ x / 16777216 ∷ []
unfolding low_first little_endian
four_bytes x h =
    let third : x / 256 / 256 % 256 ≡ x / 65536 % 256 = omega arith in
    let fourth : x / 256 / 256 / 256 % 256 ≡ x / 16777216 = omega arith in
    rw (third, fourth)

pub read_back : (x : ℕ) → x < 2 ^ 32 → bytes_number (little_endian x) ≡ x
unfolding low_first little_endian bytes_number
read_back x h = omega arith
