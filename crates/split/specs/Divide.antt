-- Bytes divided at a separator: commands at ";" (§2.6), arguments at "," (§3.1), a script's lines at LF (§13.1), a
-- number at its point and at "E" (§4.1).
use Rattle.std.specs.Prelude.{cond, List, [], ◌∷◌, ℕ, suc, eqb, take, drop}

-- how many bytes stand before the first separator
unfoldable pub span : ℕ → List ℕ → ℕ
span sep [] = 0
span sep (b ∷ bs) = cond (eqb b sep) 0 (suc (span sep bs))

-- the bytes before the first separator
abbrev pub before : ℕ → List ℕ → List ℕ
before sep s = take (span sep s) s

-- the bytes after the first separator
abbrev pub after : ℕ → List ℕ → List ℕ
after sep s = drop (suc (span sep s)) s

-- parts with one byte more at the front of the first
unfoldable pub on_head : ℕ → List (List ℕ) → List (List ℕ)
on_head b [] = (b ∷ []) ∷ []
on_head b (p ∷ ps) = (b ∷ p) ∷ ps

-- §2.6 and §3.1: the parts that separators divide: one more than there are separators
unfoldable pub parts : ℕ → List ℕ → List (List ℕ)
parts sep [] = [] ∷ []
parts sep (b ∷ bs) = cond (eqb b sep) ([] ∷ parts sep bs) (on_head b (parts sep bs))
