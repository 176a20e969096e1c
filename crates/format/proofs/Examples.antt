-- Replies of the manual's examples (§4.6, §11.1) as texts, by computation. Assumes nothing.
use mathlib.Core.Path.{◌≡◌, refl}
use Rattle.split.specs.Ascii.{bytes}
use Rattle.format.specs.Text.{padded, digit_count_in, plain, fixed, sign, signed_text}

-- the serial; *ESR?; SLVL 1.002; FREQ 1234.6 and the highest; PHAS -179.00, 9.99 and zero, kept with the bias 17999
pub replies :
    (padded 5 42 ≡ bytes "00042")
    × (plain 144 ≡ bytes "144")
    × (fixed 3 1002 ≡ bytes "1.002")
    × (fixed 4 12346000 ≡ bytes "1234.6000")
    × (fixed 4 1020000000 ≡ bytes "102000.0000")
    × (signed_text 2 17999 99 ≡ bytes "-179.00")
    × (signed_text 2 17999 18998 ≡ bytes "9.99")
    × (signed_text 2 17999 17999 ≡ bytes "0.00")
    × (signed_text 0 0 0 ≡ bytes "0")
unfolding padded digit_count_in plain fixed sign signed_text
replies = (refl, refl, refl, refl, refl, refl, refl, refl, refl)
