-- The manual's examples for TRCB (§8.2). Assumes nothing.
use Prim.Native.Nat.{ℕ, ◌+◌, ◌-◌, ◌*◌}
use mathlib.Core.List.{List, [], ◌∷◌}
use mathlib.Core.Path.{◌≡◌, refl}
use lib.Count.{count_leading_zeros}
use Rattle.point.specs.Single.{pattern}
use Rattle.point.specs.Point.{magnitude_of, is_legal, highest, single_of, float_of}
use Rattle.point.specs.Bytes.{low_first, little_endian}

-- the bytes sent for the point whose low 16 bits and exponent these are
abbrev sent : ℕ → ℕ → List ℕ
sent low e = little_endian (float_of (e * 65536 + low))

-- the 16 bits of -n
abbrev minus : ℕ → ℕ
minus n = 65536 - n

-- §8.2: the bytes of four points, given as m and e: 1 and 124, -3 and 123, 32767 and 124, -32768 and 236
pub examples :
    (sent 1 124 ≡ 0x00 ∷ 0x00 ∷ 0x80 ∷ 0x3F ∷ [])
    × (sent (minus 3) 123 ≡ 0x00 ∷ 0x00 ∷ 0xC0 ∷ 0xBF ∷ [])
    × (sent 32767 124 ≡ 0x00 ∷ 0xFE ∷ 0xFF ∷ 0x46 ∷ [])
    × (sent (minus 32768) 236 ≡ 0x00 ∷ 0x00 ∷ 0x00 ∷ 0xFF ∷ [])
unfolding count_leading_zeros pattern magnitude_of is_legal highest single_of float_of low_first little_endian
examples = (refl, refl, refl, refl)
