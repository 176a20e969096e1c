-- A command read from the quantities of its numbers is the command that its text means. Assumes nothing.
use Prim.Native.Nat.{ℕ, ◌+◌, ◌<◌}
use mathlib.Core.Path.{◌≡◌, refl, sym, ap, ◌∙◌}
use mathlib.Core.Bool.{true, false, true≢false, cond}
use mathlib.Core.List.{List, [], ◌∷◌}
use native.Mathlib.Omega.{arith}
use lib.Dec.{ltb, eqb}
use lib.ListN.{length}
use borrow.Author.Tests.{ltb-true, ltb-false, ne_eqb}
use Rattle.std.specs.Prelude.{Option, Some, None, Result, Ok, Err, ok_or}
use Rattle.laws.proofs.Tests.{split}
use Rattle.split.specs.Divide.{span, before, after, parts}
use Rattle.split.proofs.Span.{span_le, parts_first, parts_more, parts_last}
use Rattle.number.specs.Number.{is_number, is_mantissa, unsigned}
use Rattle.number.specs.Value.{exact_of}
use Rattle.number.specs.Parts.{quantity_of, read_of, taken_of}
use Rattle.number.specs.declared.Quantity.{Quantity}
use Rattle.number.proofs.Exact.{taken_exact, under_pos}
use Rattle.settings.specs.Table.{row_of}
use Rattle.settings.specs.Setting.{setting_of}
use Rattle.settings.proofs.Exact.{value_exact}
use Rattle.outcome.specs.declared.Refusal.{Refusal}
use Rattle.outcome.specs.declared.Refusal.TheVariants.{OutOfRange}
use Rattle.mnemonic.specs.declared.Register.{Register}
use Rattle.mnemonic.specs.declared.Form.{Form}
use Rattle.command.specs.Arguments.{comma, arguments}
use Rattle.command.specs.Parsed.{Read, malformed, with, one, two, three, whole_range, whole_of, alone}
use Rattle.command.specs.Parsed.{set_setting, set_channel, set_channel_pair, set_enable}
use Rattle.command.specs.Parsed.{query_channel, query_channel_pair, query_enable, query_status, query_trace}
use Rattle.command.specs.Parts.{◌>>=◌, read_one, read_two, read_three, whole_taken, setting_taken, read_whole}
use Rattle.command.specs.Parts.{setting_read, channel_read, pair_read, bit_read, enable_read}
use Rattle.command.specs.Parts.{channel_asked, pair_asked, enable_asked, status_asked, trace_asked}
use Rattle.command.specs.declared.SetArgument.TheVariants as set
use Rattle.command.specs.declared.Kind.{Kind}
use Rattle.command.specs.declared.Kind.TheVariants.{Set}
use Rattle.command.proofs.Comma.{number_whole, no_number}

-- the quantity of a number's text, in units of 10^-decimals
abbrev kept : ℕ → List ℕ → Quantity
kept d a = quantity_of (exact_of d a)

-- ---- values

-- a value, or refusal 2
or_refused : (o : Option ℕ) (k j : ℕ → Read) → ((v : ℕ) → k v ≡ j v) → with o k ≡ (ok_or o OutOfRange >>= j)
or_refused (Some v) k j same = same v
or_refused None k j same = refl

-- a whole number of 32 bits
module _ (low high : ℕ) (h : high < 4294967295) (a : List ℕ) where
  pub whole_is : taken_of (whole_range low high) (kept 0 a) ≡ whole_of low high a
  whole_is = taken_exact (exact_of 0 a) (under_pos 0 a) (whole_range low high) (omega arith)

  whole_then : (k j : ℕ → Read) → ((v : ℕ) → k v ≡ j v) →
      with (whole_of low high a) k ≡ (whole_taken low high (kept 0 a) >>= j)
  unfolding whole_taken
  whole_then k j same = rw whole_is (or_refused (whole_of low high a) k j same)

-- a setting's value
setting_then : (entry : ℕ) (a : List ℕ) (k j : ℕ → Read) → ((v : ℕ) → k v ≡ j v) →
    with (setting_of entry a) k ≡ (setting_taken entry (kept (row_of entry).decimals a) >>= j)
unfolding setting_taken
setting_then entry a k j same = rw (value_exact entry a) (or_refused (setting_of entry a) k j same)

-- ---- arguments

-- a number's text, or refusal 1
number_then : (d : ℕ) (a : List ℕ) (r : Read) (j : Quantity → Read) → r ≡ j (kept d a) →
    cond (is_number a) r malformed ≡ (read_one d a >>= j)
unfolding read_one read_of
number_then d a r j same = split (is_number a) (λ e. rw e same) (λ e. rw e)

-- one argument, two and three, as the parts of a text
one_parts : (d : ℕ) (k : List ℕ → Read) (j : Quantity → Read) → ((a : List ℕ) → k a ≡ j (kept d a)) → (s : List ℕ) →
    one k (parts comma s) ≡ (read_one d s >>= j)
unfolding one
one_parts d k j same s = split (ltb (span comma s) (length s))
    (λ e. let l = ltb-true (span comma s) (length s) e in
    rw (parts_more comma s l, parts_first comma (after comma s))
    (rw (no_number s l) at (number_then d s (k s) j (same s))))
    (λ e. let l = ltb-false (span comma s) (length s) e in
    rw (parts_last comma s (omega (arith, span_le comma s))) (number_then d s (k s) j (same s)))

two_first : (k : List ℕ → List ℕ → Read) (a : List ℕ) (ps : List (List ℕ)) →
    two k (a ∷ ps) ≡ cond (is_number a) (one (k a) ps) malformed
unfolding one two
two_first k a [] = split (is_number a) (λ e. rw e) (λ e. rw e)
two_first k a (b ∷ []) = split (is_number a) (λ e. rw e) (λ e. rw e)
two_first k a (b ∷ c ∷ more) = split (is_number a) (λ e. rw e) (λ e. rw e)

-- two values that are both there, or the first one's refusal, or the second one's
both_then : {A B C : Type 0} (p : Result A Refusal) (q : Result B Refusal) (f : A → B → C) (j : C → Read) →
    (p >>= λ a. q >>= λ b. j (f a b)) ≡ ((p >>= λ a. q >>= λ b. Ok (f a b)) >>= j)
both_then (Ok a) (Ok b) f j = refl
both_then (Ok a) (Err r) f j = refl
both_then (Err r) q f j = refl

two_parts : (d e : ℕ) (k : List ℕ → List ℕ → Read) (j : Quantity × Quantity → Read) →
    ((a b : List ℕ) → k a b ≡ j (kept d a, kept e b)) → (s : List ℕ) →
    two k (parts comma s) ≡ (read_two d e s >>= j)
unfolding two read_two
two_parts d e k j same s = split (ltb (span comma s) (length s))
    (λ t. let first = before comma s in let more = after comma s in
    let rest = one_parts e (k first) (λ b. j (kept d first, b)) (same first) more in
    rw (t, parts_more comma s (ltb-true (span comma s) (length s) t), two_first k first (parts comma more))
    (number_then d first (one (k first) (parts comma more)) (λ a. read_one e more >>= λ b. j (a, b)) rest
    ∙ both_then (read_one d first) (read_one e more) (λ a b. (a, b)) j))
    (λ t. let l = ltb-false (span comma s) (length s) t in
    rw (t, parts_last comma s (omega (arith, span_le comma s))))

three_first : (k : List ℕ → List ℕ → List ℕ → Read) (a : List ℕ) (ps : List (List ℕ)) →
    three k (a ∷ ps) ≡ cond (is_number a) (two (k a) ps) malformed
unfolding two three
three_first k a [] = split (is_number a) (λ e. rw e) (λ e. rw e)
three_first k a (b ∷ []) = split (is_number a) (λ e. rw e) (λ e. rw e)
three_first k a (b ∷ c ∷ []) = split (is_number a) (λ e. rw e) (λ e. rw e)
three_first k a (b ∷ c ∷ d ∷ more) = split (is_number a) (λ e. rw e) (λ e. rw e)

three_parts : (d e f : ℕ) (k : List ℕ → List ℕ → List ℕ → Read) (j : Quantity × Quantity × Quantity → Read) →
    ((a b c : List ℕ) → k a b c ≡ j (kept d a, kept e b, kept f c)) → (s : List ℕ) →
    three k (parts comma s) ≡ (read_three d e f s >>= j)
unfolding three read_three
three_parts d e f k j same s = split (ltb (span comma s) (length s))
    (λ t. let first = before comma s in let more = after comma s in
    let rest = two_parts e f (k first) (λ b. j (kept d first, b.0, b.1)) (same first) more in
    rw (t, parts_more comma s (ltb-true (span comma s) (length s) t), three_first k first (parts comma more))
    (number_then d first (two (k first) (parts comma more)) (λ a. read_two e f more >>= λ b. j (a, b.0, b.1)) rest
    ∙ both_then (read_one d first) (read_two e f more) (λ a b. (a, b.0, b.1)) j))
    (λ t. let l = ltb-false (span comma s) (length s) t in
    rw (t, parts_last comma s (omega (arith, span_le comma s))))

empty_text : is_number [] ≡ false
unfolding is_number is_mantissa unsigned span
empty_text = refl

-- no text is no argument, which is as an empty one: no number
one_args : (k : List ℕ → Read) (s : List ℕ) → one k (arguments s) ≡ one k (parts comma s)
unfolding one arguments parts
one_args k [] = rw empty_text
one_args k (b ∷ bs) = refl

two_args : (k : List ℕ → List ℕ → Read) (s : List ℕ) → two k (arguments s) ≡ two k (parts comma s)
unfolding two arguments parts
two_args k [] = refl
two_args k (b ∷ bs) = refl

three_args : (k : List ℕ → List ℕ → List ℕ → Read) (s : List ℕ) → three k (arguments s) ≡ three k (parts comma s)
unfolding three arguments parts
three_args k [] = refl
three_args k (b ∷ bs) = refl

-- ---- sets

pub setting_lem : (entry : ℕ) (s : List ℕ) → set_setting entry (arguments s) ≡ setting_read entry s
unfolding set_setting
setting_lem entry s = one_args _ s ∙ one_parts (row_of entry).decimals _ _ (λ x. setting_then entry x _ _ λ v. refl) s

module _ (base channels : ℕ) (h : channels < 4294967295) (s : List ℕ) where
  pub channel_lem : set_channel base channels (arguments s) ≡ channel_read base channels s
  unfolding set_channel
  channel_lem =
      two_args _ s ∙ two_parts 0 (row_of base).decimals _ _
      (λ i x. whole_then 1 channels h i _ _ λ n. setting_then base x _ _ λ v. refl) s

  pub pair_lem : set_channel_pair base channels (arguments s) ≡ pair_read base channels s
  unfolding set_channel_pair
  pair_lem =
      three_args _ s ∙ three_parts 0 (row_of base).decimals (row_of (base + 1)).decimals _ _
      (λ i x y. whole_then 1 channels h i _ _ λ n.
      setting_then base x _ _ λ v. setting_then (base + 1) y _ _ λ w. refl) s

-- what is no number is no single argument, so it sets one bit if anything
bit_lem : (r : Register) (s : List ℕ) → is_number s ≡ false → set_enable r (arguments s) ≡ bit_read r s
unfolding set_enable arguments one two
bit_lem r s none = by s none ∙ two_args _ s ∙ two_parts 0 0 _ _ bit s where
  k : List ℕ → List ℕ → Read
  k = λ i v. with (whole_of 0 7 i) λ b. with (whole_of 0 1 v) λ x. Ok (Set (set.EnableBit r b x))

  bit : (i v : List ℕ) → k i v
      ≡ (whole_taken 0 7 (kept 0 i) >>= λ b. whole_taken 0 1 (kept 0 v) >>= λ x. Ok (Set (set.EnableBit r b x)))
  bit i v = whole_then 0 7 (omega arith) i _ _ λ b. whole_then 0 1 (omega arith) v _ _ λ x. refl

  by : (s : List ℕ) → is_number s ≡ false → set_enable r (arguments s) ≡ two k (arguments s)
  by [] none = refl
  by (c ∷ cs) none = split (ltb (span comma (c ∷ cs)) (length (c ∷ cs)))
      (λ t. rw (parts_more comma (c ∷ cs) (ltb-true _ _ t), parts_first comma (after comma (c ∷ cs))))
      (λ t. let l = ltb-false (span comma (c ∷ cs)) (length (c ∷ cs)) t in
      rw (parts_last comma (c ∷ cs) (omega (arith, span_le comma (c ∷ cs))), none))

pub enable_lem : (r : Register) (s : List ℕ) → set_enable r (arguments s) ≡ enable_read r s
unfolding set_enable arguments one read_one read_of
enable_lem r s = split (is_number s) (λ e. all s e) (λ e. rw e (bit_lem r s e)) where
  all : (s : List ℕ) → is_number s ≡ true → set_enable r (arguments s) ≡ enable_read r s
  all [] e = absurd (true≢false (sym e ∙ empty_text))
  all (c ∷ cs) e =
      rw (parts_last comma (c ∷ cs) (number_whole (c ∷ cs) e), e)
      (whole_then 0 255 (omega arith) (c ∷ cs) _ _ λ v. refl)

-- ---- queries

-- a step after two is a step after the second of them
in_turn : {A B : Type 0} (p : Result A Refusal) (f : A → Result B Refusal) (j : B → Read) →
    (p >>= λ a. f a >>= j) ≡ ((p >>= f) >>= j)
in_turn (Ok a) f j = refl
in_turn (Err r) f j = refl

whole_parts : (low high : ℕ) → high < 4294967295 → (k : ℕ → Read) (s : List ℕ) →
    one (λ i. with (whole_of low high i) k) (parts comma s) ≡ (read_whole low high s >>= k)
unfolding read_whole
whole_parts low high h k s =
    one_parts 0 _ (λ q. whole_taken low high q >>= k) (λ i. whole_then low high h i k k λ v. refl) s
    ∙ in_turn (read_one 0 s) (whole_taken low high) k

-- what is the same of one argument and more is the same of a text's parts
some_parts : (s : List ℕ) (f g : List (List ℕ) → Read) →
    ((a : List ℕ) (more : List (List ℕ)) → f (a ∷ more) ≡ g (a ∷ more)) → f (parts comma s) ≡ g (parts comma s)
some_parts s f g same = ap f (parts_first comma s) ∙ same _ _ ∙ ap g (sym (parts_first comma s))

module _ (base channels : ℕ) (h : channels < 4294967295) (s : List ℕ) where
  pub channel_asked_lem : query_channel base channels (arguments s) ≡ channel_asked base channels s
  unfolding query_channel
  channel_asked_lem = one_args _ s ∙ whole_parts 1 channels h _ s

  pub pair_asked_lem : query_channel_pair base channels (arguments s) ≡ pair_asked base channels s
  unfolding query_channel_pair
  pair_asked_lem = one_args _ s ∙ whole_parts 1 channels h _ s

pub enable_asked_lem : (r : Register) (s : List ℕ) → query_enable r (arguments s) ≡ enable_asked r s
unfolding query_enable arguments
enable_asked_lem r [] = refl
enable_asked_lem r (c ∷ cs) =
    some_parts (c ∷ cs) (query_enable r) (one _) (λ a more. refl) ∙ whole_parts 0 7 (omega arith) _ (c ∷ cs)

pub status_asked_lem : (r : Register) (s : List ℕ) → query_status r (arguments s) ≡ status_asked r s
unfolding query_status arguments
status_asked_lem r [] = refl
status_asked_lem r (c ∷ cs) =
    some_parts (c ∷ cs) (query_status r) (one _) (λ a more. refl) ∙ whole_parts 0 7 (omega arith) _ (c ∷ cs)

pub trace_asked_lem : (form : Form) (s : List ℕ) → query_trace form (arguments s) ≡ trace_asked form s
unfolding query_trace
trace_asked_lem form s =
    three_args _ s ∙ three_parts 0 0 0 _ _
    (λ i j k. whole_then 1 2 (omega arith) i _ _ λ t.
    whole_then 0 16383 (omega arith) j _ _ λ b. whole_then 1 16383 (omega arith) k _ _ λ n. refl) s

-- ---- no argument

pub alone_lem : (k : Kind) (s : List ℕ) → alone k (arguments s) ≡ cond (eqb (length s) 0) (Ok k) malformed
unfolding alone arguments
alone_lem k [] = refl
alone_lem k (b ∷ bs) = rw (parts_first comma (b ∷ bs), ne_eqb (length (b ∷ bs)) 0 (λ e. omega arith))
