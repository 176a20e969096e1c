-- Names found by their bytes as one number are names found by their bytes. Assumes nothing.
use Prim.Native.Nat.{ℕ, ◌<◌}
use mathlib.Core.Path.{◌≡◌, refl}
use mathlib.Core.Bool.{Bool, true, false, ◌&&◌}
use mathlib.Core.List.{List, [], ◌∷◌}
use native.Mathlib.Omega.{arith}
use lib.Dec.{T, eqb, ltb, ltb→lt}
use borrow.Author.Tests.{eq-eqb, ne_eqb, eqb-true, eqb-false}
use Rattle.laws.proofs.Lists.{all}
use Rattle.mnemonic.specs.Names.{Named, commands, same_bytes, meaning_in}
use Rattle.mnemonic.specs.Parts.{word, found_in}
use Rattle.mnemonic.specs.Words.{is_four, FoundWord}

module _ (a b c d e f g h : ℕ) (ha : a < 256) (hb : b < 256) (hc : c < 256) (hd : d < 256)
    (he : e < 256) (hf : f < 256) (hg : g < 256) (hh : h < 256)
  where
    -- two names of four bytes
    abbrev left : List ℕ
    left = a ∷ b ∷ c ∷ d ∷ []

    abbrev right : List ℕ
    right = e ∷ f ∷ g ∷ h ∷ []

    same_word : eqb (word left) (word right) ≡ same_bytes left right
    same_word = by (eqb a e) (eqb b f) (eqb c g) (eqb d h) refl refl refl refl where
      by : (p q r s : Bool) → eqb a e ≡ p → eqb b f ≡ q → eqb c g ≡ r → eqb d h ≡ s →
          eqb (word left) (word right) ≡ (p && (q && (r && (s && true))))
      by true true true true i j k l =
          eq-eqb (word left) (word right)
          (omega (arith, eqb-true a e i, eqb-true b f j, eqb-true c g k, eqb-true d h l))
      by true true true false i j k l = ne_eqb (word left) (word right) (λ z. eqb-false d h l (omega arith))
      by true true false s i j k l = ne_eqb (word left) (word right) (λ z. eqb-false c g k (omega arith))
      by true false r s i j k l = ne_eqb (word left) (word right) (λ z. eqb-false b f j (omega arith))
      by false q r s i j k l = ne_eqb (word left) (word right) (λ z. eqb-false a e i (omega arith))

-- the halves of two tests that both hold
both_true : (a b : Bool) → T (a && b) → T a × T b
both_true true b t = (tt, t)
both_true false b t = absurd t

-- every name of a list is four bytes
abbrev all_four : List Named → Bool
all_four ns = all (λ n. is_four n.name) ns

same_four : (s t : List ℕ) → T (is_four s) → T (is_four t) → eqb (word s) (word t) ≡ same_bytes s t
same_four [] t p q = elim p [ ]
same_four (a ∷ []) t p q = elim p [ ]
same_four (a ∷ (b ∷ [])) t p q = elim p [ ]
same_four (a ∷ (b ∷ (c ∷ []))) t p q = elim p [ ]
same_four (a ∷ (b ∷ (c ∷ (d ∷ [])))) [] p q = elim q [ ]
same_four (a ∷ (b ∷ (c ∷ (d ∷ [])))) (e ∷ []) p q = elim q [ ]
same_four (a ∷ (b ∷ (c ∷ (d ∷ [])))) (e ∷ (f ∷ [])) p q = elim q [ ]
same_four (a ∷ (b ∷ (c ∷ (d ∷ [])))) (e ∷ (f ∷ (g ∷ []))) p q = elim q [ ]
same_four (a ∷ (b ∷ (c ∷ (d ∷ [])))) (e ∷ (f ∷ (g ∷ (h ∷ (_ ∷ _))))) p q = elim q [ ]
same_four (a ∷ (b ∷ (c ∷ (d ∷ (_ ∷ _))))) t p q = elim p [ ]
same_four (a ∷ b ∷ c ∷ d ∷ []) (e ∷ f ∷ g ∷ h ∷ []) p q =
    let p1 = both_true (ltb a 256) _ p in
    let p2 = both_true (ltb b 256) _ p1.1 in
    let p3 = both_true (ltb c 256) _ p2.1 in
    let q1 = both_true (ltb e 256) _ q in
    let q2 = both_true (ltb f 256) _ q1.1 in
    let q3 = both_true (ltb g 256) _ q2.1 in
    same_word a b c d e f g h (ltb→lt a 256 p1.0) (ltb→lt b 256 p2.0) (ltb→lt c 256 p3.0)
    (ltb→lt d 256 p3.1) (ltb→lt e 256 q1.0) (ltb→lt f 256 q2.0) (ltb→lt g 256 q3.0) (ltb→lt h 256 q3.1)

-- and of a whole list of names
found_is : (ns : List Named) → T (all_four ns) → (s : List ℕ) → T (is_four s) → found_in ns (word s) ≡ meaning_in ns s
unfolding found_in meaning_in
found_is [] t s f = refl
found_is (n ∷ ns) t s f =
    let b = both_true (is_four n.name) (all_four ns) t in
    rw (same_four n.name s b.0 f, found_is ns b.1 s f)

-- the search by one number is the search by four bytes
pub found_word : FoundWord
found_word s f = found_is commands tt s f
