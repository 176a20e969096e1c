-- A setting's query and its reply sent back are taken, each as one command. Assumes nothing.
use Prim.Native.Nat.{ℕ, ◌+◌, ◌-◌, ◌*◌, ◌≤◌, ◌<◌}
use mathlib.Core.Path.{◌≡◌, refl, sym, ap, ◌∙◌}
use mathlib.Core.Bool.{true, cond}
use mathlib.Core.List.{List, [], ◌∷◌, ◌++◌}
use native.Mathlib.Omega.{arith}
use native.Mathlib.Nat.{mod-one}
use lib.ListN.{length, drop, length-append}
use borrow.Author.Tests.{le-ltb}
use Rattle.split.specs.Divide.{parts}
use Rattle.number.specs.Number.{is_number, begins}
use Rattle.number.specs.Parts.{taken_of}
use Rattle.std.specs.Prelude.{Some, Ok}
use Rattle.format.specs.Text.{plain, sign, distance, signed_text}
use Rattle.format.proofs.Value.{fixed_plain}
use Rattle.format.proofs.Length.{plain-length, signed-length}
use Rattle.format.proofs.RoundTrip.{read_again}
use Rattle.mnemonic.specs.Names.{meaning_of}
use Rattle.mnemonic.specs.declared.Register.{Register}
use Rattle.mnemonic.specs.declared.Form.{Form}
use Rattle.mnemonic.specs.declared.Meaning.{Meaning}
use Rattle.mnemonic.specs.declared.Meaning.TheVariants.{Setting, Channel, ChannelPair, Enable, Trace}
use Rattle.settings.specs.Table.{entries, row_of}
use Rattle.settings.specs.Setting.{setting_of}
use Rattle.settings.specs.Valid.{value_valid}
use Rattle.settings.proofs.Rows.{row_size, row_decimals}
use Rattle.command.specs.Arguments.{comma, arguments}
use Rattle.command.specs.Parsed.{parsed_of, parsed_as, taken, whole_range, whole_of, one, two, three}
use Rattle.command.specs.Parsed.{alone, set_with, query_with}
use Rattle.command.specs.Parsed.{set_setting, set_channel, set_channel_pair, set_enable}
use Rattle.command.specs.Parsed.{query_enable, query_channel, query_channel_pair, query_trace}
use Rattle.command.proofs.Exact.{whole_is}
use Rattle.command.specs.declared.SetArgument.TheVariants as set
use Rattle.command.specs.declared.QueryArgument.TheVariants as query
use Rattle.command.specs.declared.Kind.{Kind}
use Rattle.command.specs.declared.Kind.TheVariants.{Set, Query}
use Rattle.demand2.specs.Written.{written}
use Rattle.demand2.proofs.Written.{whole, taken-whole, read_as, kept_size, written_again}
use Rattle.laws.proofs.Lists.{all, all_append}
use Rattle.invariant.proofs.Bytes.{in_number, in_arguments, in_command, in_arguments_lem, in_command_lem}
use Rattle.invariant.proofs.Bytes.{parts_free, parts-joined, begins-other, cleaned-same, arguments_some}
use Rattle.invariant.proofs.Bytes.{plain-bytes, plain_some, signed-bytes, signed_some}
use Rattle.invariant.proofs.Meanings.{Name, Alike, alike_text, alike_keeps}
use Rattle.invariant.proofs.OneCommand.{Says}
use Rattle.settings.specs.Limits.{capacity_most}

-- several arguments, divided by ","
text-one : (x : List ℕ) → 1 ≤ length x → all in_number x ≡ true → arguments x ≡ x ∷ []
text-one x h b = arguments_some x h ∙ parts_free in_number comma refl x b

text-two : (x y : List ℕ) → all in_number x ≡ true → all in_number y ≡ true → parts comma (x ++ comma ∷ y) ≡ x ∷ y ∷ []
text-two x y b c = parts-joined in_number comma refl x y b ∙ ap (λ l. x ∷ l) (parts_free in_number comma refl y c)

joined_some : (x y : List ℕ) → 1 ≤ length (x ++ comma ∷ y)
joined_some x y = rw length-append (omega arith)

text-three : (x y z : List ℕ) → all in_number x ≡ true → all in_number y ≡ true → all in_number z ≡ true →
    arguments (x ++ comma ∷ (y ++ comma ∷ z)) ≡ x ∷ y ∷ z ∷ []
text-three x y z b c d =
    let rest = y ++ comma ∷ z in
    arguments_some (x ++ comma ∷ rest) (joined_some x rest) ∙ parts-joined in_number comma refl x rest b
    ∙ ap (λ l. x ∷ l) (text-two y z c d)

joined_bytes : (x y : List ℕ) → all in_number x ≡ true → all in_arguments y ≡ true →
    all in_arguments (x ++ comma ∷ y) ≡ true
joined_bytes x y b c = all_append in_arguments x (comma ∷ y) (in_arguments_lem x b) c

-- a name of four bytes, and what follows it
parsed_name : (name rest : List ℕ) (m : Meaning) → length name ≡ 4 → meaning_of name ≡ Some m →
    parsed_of (name ++ rest)
    ≡ parsed_as (cond (begins 63 rest) (query_with m (arguments (drop 1 rest))) (set_with m (arguments rest)))
unfolding parsed_of
parsed_name [] rest m h e = absurd (omega arith)
parsed_name (a ∷ []) rest m h e = absurd (omega arith)
parsed_name (a ∷ b ∷ []) rest m h e = absurd (omega arith)
parsed_name (a ∷ b ∷ c ∷ []) rest m h e = absurd (omega arith)
parsed_name (a ∷ b ∷ c ∷ d ∷ []) rest m h e = rw (le-ltb (length (a ∷ b ∷ c ∷ d ∷ rest)) 4 (omega arith), e)
parsed_name (a ∷ b ∷ c ∷ d ∷ e ∷ name) rest m h f = absurd (omega arith)

-- a command of such a name, then "?", or other bytes of arguments
module _ (name : List ℕ) (n : Name name) (m : Meaning) (means : meaning_of name ≡ Some m) (kind : Kind) where
  says : (text : List ℕ) → length text ≤ 252 → all in_command text ≡ true → parsed_of (name ++ text) ≡ taken kind →
      Says (name ++ text) kind
  says text l b e =
      let c = all_append in_command name text n.bytes b in
      record {
        short = rw length-append (omega (arith, n.four));
        kept = cleaned-same (name ++ text) c;
        single = parts_free in_command 59 refl (name ++ text) c;
        read = e;
      }

  query-says : (args : List ℕ) → length args ≤ 251 → all in_arguments args ≡ true →
      query_with m (arguments args) ≡ Ok kind → Says (name ++ (63 ∷ args)) kind
  unfolding begins
  query-says args l b e =
      says (63 ∷ args) (omega arith) (in_command_lem args b) (parsed_name name (63 ∷ args) m n.four means ∙ rw e)

  set_says : (args : List ℕ) → length args ≤ 252 → all in_arguments args ≡ true →
      set_with m (arguments args) ≡ Ok kind → Says (name ++ args) kind
  set_says args l b e =
      says args l (in_command_lem args b)
      (parsed_name name args m n.four means ∙ rw (begins-other in_arguments 63 refl args b, e))

  -- one whole number asked for, of up to five digits
  number-says : (i : ℕ) → length (plain i) ≤ 5 → query_with m (plain i ∷ []) ≡ Ok kind →
      Says (name ++ (63 ∷ plain i)) kind
  number-says i l e =
      query-says (plain i) (omega arith) (in_arguments_lem (plain i) (plain-bytes i))
      (rw (text-one (plain i) (plain_some i) (plain-bytes i)) e)

-- a whole number's text is a number, and is taken as itself
plain-signed : (i : ℕ) → plain i ≡ signed_text 0 0 i
unfolding signed_text sign
plain-signed i =
    let e : distance 0 i ≡ i = omega arith in
    rw (le-ltb i 0 (omega arith), fixed_plain 0 (distance 0 i) refl, e)

record Whole (low high i : ℕ) : Type 0 where
  short : length (plain i) ≤ 5
  number : is_number (plain i) ≡ true
  value : whole_of low high (plain i) ≡ Some i

whole_again : (low high i : ℕ) → low ≤ i → i ≤ high → high ≤ 99999 → Whole low high i
whole_again low high i some most few =
    let again = read_again 0 0 i (omega arith) (omega arith) (omega arith) in
    let r = read_as 0 (plain i) (whole 0 i) (rw (plain-signed i) again) in
    let range = whole_range low high in
    record {
      short = plain-length 5 i (omega arith) (omega arith);
      number = r.number;
      value =
          sym (whole_is low high (omega arith) (plain i)) ∙ ap (taken_of range) r.kept
          ∙ taken-whole range i some most (omega arith) (omega arith) (omega arith) (mod-one (distance 0 i));
    }

channel_again : (channels i : ℕ) → 1 ≤ i → i ≤ channels → channels ≤ entries → Whole 1 channels i
channel_again channels i some most few = whole_again 1 channels i some most (omega arith)

-- what is written at an entry is written at an entry with such a row
alike_written : {e f : ℕ} → Alike e f → (v : ℕ) → written e v ≡ written f v
alike_written a v = let same = alike_text a in rw (same.0, same.1)

-- what is written at an entry is taken alike at an entry with such a row
record Fits (e f v : ℕ) : Type 0 where
  number : is_number (written e v) ≡ true
  value : setting_of f (written e v) ≡ Some v

fits_alike : (e f v : ℕ) → Alike e f → value_valid e v ≡ true → Fits e f v
fits_alike e f v a h =
    let w = written_again f v (rw (alike_keeps a v) at h) in
    let z = alike_written a v in
    record { number = rw z w.number; value = rw z w.value }

written-bytes : (entry v : ℕ) → all in_number (written entry v) ≡ true
written-bytes entry v = signed-bytes (row_of entry).decimals (row_of entry).bias v

written-short : (entry v : ℕ) → value_valid entry v ≡ true → length (written entry v) ≤ 12
written-short entry v h =
    let size = row_size entry in
    let kept = kept_size entry v h in
    let few = row_decimals entry in
    signed-length 10 (row_of entry).decimals (row_of entry).bias v (omega arith) (omega arith)

module _ (name : List ℕ) (n : Name name) where
  module _ (entry : ℕ) (means : meaning_of name ≡ Some (Setting entry)) where
    pub one-asked : Says (name ++ (63 ∷ [])) (Query (query.Value entry))
    unfolding query_with alone arguments
    one-asked = query-says name n (Setting entry) means (Query (query.Value entry)) [] (omega arith) refl refl

    pub one-sent : (v : ℕ) → value_valid entry v ≡ true → Says (name ++ written entry v) (Set (set.Value entry v))
    unfolding set_with set_setting one
    one-sent v h =
        let x = written entry v in
        let w = written_again entry v h in
        set_says name n (Setting entry) means (Set (set.Value entry v)) x (omega (arith, written-short entry v h))
        (in_arguments_lem x (written-bytes entry v))
        (rw (text-one x (signed_some _ _ v) (written-bytes entry v), w.number, w.value))

  module _ (which : Register) (means : meaning_of name ≡ Some (Enable which)) where
    pub enable-asked : Says (name ++ (63 ∷ [])) (Query (query.Enable which))
    unfolding query_with query_enable arguments
    enable-asked = query-says name n (Enable which) means (Query (query.Enable which)) [] (omega arith) refl refl

    pub enable-sent : (v : ℕ) → v < 256 → Says (name ++ plain v) (Set (set.Enable which v))
    unfolding set_with set_enable one
    enable-sent v h =
        let w = whole_again 0 255 v (omega arith) (omega arith) (omega arith) in
        set_says name n (Enable which) means (Set (set.Enable which v)) (plain v) (omega (arith, w.short))
        (in_arguments_lem (plain v) (plain-bytes v))
        (rw (text-one (plain v) (plain_some v) (plain-bytes v), w.number, w.value))

  module _ (base channels i : ℕ) (some : 1 ≤ i) (most : i ≤ channels) (few : channels ≤ entries) where
    module _ (means : meaning_of name ≡ Some (Channel base channels)) where
      pub channel-asked : Says (name ++ (63 ∷ plain i)) (Query (query.Value (base + (i - 1))))
      unfolding query_with query_channel one
      channel-asked =
          let c = channel_again channels i some most few in
          number-says name n (Channel base channels) means (Query (query.Value (base + (i - 1)))) i c.short
          (rw (c.number, c.value))

      pub channel-sent : (v : ℕ) → Alike (base + (i - 1)) base → value_valid (base + (i - 1)) v ≡ true →
          Says (name ++ (plain i ++ comma ∷ written (base + (i - 1)) v)) (Set (set.Value (base + (i - 1)) v))
      unfolding set_with set_channel two
      channel-sent v a h =
          let e = base + (i - 1) in
          let x = written e v in
          let c = channel_again channels i some most few in
          let w = fits_alike e base v a h in
          set_says name n (Channel base channels) means (Set (set.Value e v)) (plain i ++ comma ∷ x)
          (rw length-append (omega (arith, c.short, written-short e v h)))
          (joined_bytes (plain i) x (plain-bytes i) (in_arguments_lem x (written-bytes e v)))
          (rw (
            arguments_some (plain i ++ comma ∷ x) (joined_some (plain i) x),
            text-two (plain i) x (plain-bytes i) (written-bytes e v),
            c.number,
            w.number,
            c.value,
            w.value,
          ))

    module _ (means : meaning_of name ≡ Some (ChannelPair base channels)) where
      pub pair-asked : Says (name ++ (63 ∷ plain i)) (Query (query.Pair (base + 2 * (i - 1))))
      unfolding query_with query_channel_pair one
      pair-asked =
          let c = channel_again channels i some most few in
          number-says name n (ChannelPair base channels) means (Query (query.Pair (base + 2 * (i - 1)))) i c.short
          (rw (c.number, c.value))

      pub pair-sent : (v w : ℕ) → Alike (base + 2 * (i - 1)) base → Alike (base + 2 * (i - 1) + 1) (base + 1) →
          let e = base + 2 * (i - 1) in
          value_valid e v ≡ true → value_valid (e + 1) w ≡ true →
          Says (name ++ (plain i ++ comma ∷ (written e v ++ comma ∷ written (e + 1) w))) (Set (set.Pair e v w))
      unfolding set_with set_channel_pair three
      pair-sent v w a b h k =
          let e = base + 2 * (i - 1) in
          let x = written e v in
          let y = written (e + 1) w in
          let rest = x ++ comma ∷ y in
          let c = channel_again channels i some most few in
          let p = fits_alike e base v a h in
          let q = fits_alike (e + 1) (base + 1) w b k in
          set_says name n (ChannelPair base channels) means (Set (set.Pair e v w)) (plain i ++ comma ∷ rest)
          (rw (length-append, length-append) (omega (arith, c.short, written-short e v h, written-short (e + 1) w k)))
          (joined_bytes (plain i) rest (plain-bytes i)
          (joined_bytes x y (written-bytes e v) (in_arguments_lem y (written-bytes (e + 1) w))))
          (rw (
            text-three (plain i) x y (plain-bytes i) (written-bytes e v) (written-bytes (e + 1) w),
            c.number,
            p.number,
            q.number,
            c.value,
            p.value,
            q.value,
          ))

  -- a trace query
  pub trace-asked : (form : Form) (t bin count : ℕ) → meaning_of name ≡ Some (Trace form) → 1 ≤ t → t ≤ 2 →
      bin ≤ capacity_most → 1 ≤ count → count ≤ capacity_most →
      let text = plain t ++ comma ∷ (plain bin ++ comma ∷ plain count) in
      Says (name ++ (63 ∷ text)) (Query (query.Trace form t bin count))
  unfolding query_with query_trace three
  trace-asked form t bin count means low high far some most =
      let x = whole_again 1 2 t low high (omega arith) in
      let y = whole_again 0 capacity_most bin (omega arith) far (omega arith) in
      let z = whole_again 1 capacity_most count some most (omega arith) in
      let rest = plain bin ++ comma ∷ plain count in
      query-says name n (Trace form) means (Query (query.Trace form t bin count)) (plain t ++ comma ∷ rest)
      (rw (length-append, length-append) (omega arith))
      (joined_bytes (plain t) rest (plain-bytes t)
      (joined_bytes (plain bin) (plain count) (plain-bytes bin) (in_arguments_lem (plain count) (plain-bytes count))))
      (rw (
        text-three (plain t) (plain bin) (plain count) (plain-bytes t) (plain-bytes bin) (plain-bytes count),
        x.number,
        y.number,
        z.number,
        x.value,
        y.value,
        z.value,
      ))
