-- Quoted text is its bytes in order. Assumes nothing.
use mathlib.Core.Path.{◌≡◌, refl}
use mathlib.Core.List.{[], ◌∷◌}
use Rattle.split.specs.Ascii.{bytes}

pub quoted : bytes "*RST" ≡ 42 ∷ 82 ∷ 83 ∷ 84 ∷ []
quoted = refl
