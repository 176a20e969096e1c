-- Texts put together: nothing of a reply's text is dropped. Assumes nothing.
use Prim.Native.Nat.{ℕ, ◌+◌, ◌≤◌, ◌<◌}
use mathlib.Core.Path.{◌≡◌, sym, ap, ◌∙◌}
use mathlib.Core.List.{List, [], ◌∷◌, ◌++◌}
use native.Mathlib.Numerals.{add-one}
use native.Mathlib.Omega.{arith}
use lib.ListN.{length, take, get_or, length-append, length-take}
use lib.Seq.{take-suc}
use Rattle.split.specs.Ascii.{bytes}
use Rattle.settings.specs.Table.{row_of}
use Rattle.settings.proofs.Rows.{row_size, row_decimals}
use Rattle.format.specs.Text.{plain, padded, signed_text}
use Rattle.format.specs.Parts.{text_limit, appended}
use Rattle.format.proofs.Appended.{added_join, added_fits}
use Rattle.format.proofs.Digits.{padded-length}
use Rattle.format.proofs.Length.{plain-length, signed-length}
use Rattle.reply.specs.Text.{identity_text}

-- what the contracts say of a text: what it is, and the most bytes that it has
abbrev pub Says : ℕ → List ℕ → List ℕ → Type 0
Says n r bs = (r ≡ bs) × (length r ≤ n)

-- bytes added to a text that leaves room for them
pub says_more : (n : ℕ) (r xs bs : List ℕ) → r ≡ appended xs bs → length xs + length bs ≤ n → n ≤ text_limit →
    Says n r (xs ++ bs)
says_more n r xs bs e h l =
    let p : r ≡ xs ++ bs = e ∙ added_fits xs bs (omega arith) in
    (p, rw (p, length-append) h)

-- bytes added to no text
pub says_all : (n : ℕ) (r xs bs : List ℕ) → r ≡ appended xs bs → xs ≡ [] → length bs ≤ n → n ≤ text_limit → Says n r bs
says_all n r xs bs e p h l = says_more n r [] bs (e ∙ rw p) (omega arith) l

-- one byte more of those that are added one by one
pub added_more : (xs bs : List ℕ) (i : ℕ) → i < length bs →
    appended (appended xs (take i bs)) (get_or bs i 0 ∷ []) ≡ appended xs (take (i + 1) bs)
added_more xs bs i h = added_join xs (take i bs) (get_or bs i 0 ∷ []) ∙ rw (add-one, take-suc bs i 0)

-- a setting's value takes 12 bytes at most
pub value-length : (entry v : ℕ) → v < 4294967296 →
    length (signed_text (row_of entry).decimals (row_of entry).bias v) ≤ 12
value-length entry v h =
    signed-length 10 (row_of entry).decimals (row_of entry).bias v (omega (arith, row_decimals entry))
    (omega (arith, row_size entry))

pub plain-short : (v : ℕ) → v < 4294967296 → length (plain v) ≤ 10
plain-short v h = plain-length 10 v (omega arith) (omega arith)

-- the identity's parts, one after another
pub says_identity : (serial : ℕ) (none make numbered r : List ℕ) → none ≡ [] →
    make ≡ appended none (bytes "LOCKIN,M1,s/n") → numbered ≡ appended make (padded 5 serial)
    → r ≡ appended numbered (bytes ",ver1.000") → Says 27 r (identity_text serial)
unfolding identity_text
says_identity serial none make numbered r p a b e =
    says_all 27 r none (bytes "LOCKIN,M1,s/n" ++ (padded 5 serial ++ bytes ",ver1.000")) all p long (omega arith)
  where
    all : r ≡ appended none (bytes "LOCKIN,M1,s/n" ++ (padded 5 serial ++ bytes ",ver1.000"))
    all = e ∙ rw (b, a, added_join, added_join)

    long : length (bytes "LOCKIN,M1,s/n" ++ (padded 5 serial ++ bytes ",ver1.000")) ≤ 27
    long = rw (length-append, length-append, padded-length) (omega arith)

-- what is said of a text, in other words and with more room
pub says_as : {m : ℕ} {r bs : List ℕ} (n : ℕ) {cs : List ℕ} → Says m r bs → m ≤ n → cs ≡ bs → Says n r cs
says_as n h l e = (h.0 ∙ sym e, omega (arith, h.1))

pub says_none : {r : List ℕ} → r ≡ [] → Says 0 r []
says_none e = (e, rw e (omega arith))

-- a text that leaves some of its bytes has as many as its length says
pub says-counted : {m : ℕ} {bs : List ℕ} (n : ℕ) (room : List ℕ) → Says m (take n room) bs → m < length room →
    length bs ≡ n
says-counted n room h l = omega (arith, length-take n room, ap length h.0, h.1)
