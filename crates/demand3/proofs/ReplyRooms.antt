-- A room that is not too small for any line, in a state that 11 does not refuse.
use Prim.Native.Nat.{ℕ, ◌+◌, ◌-◌, ◌*◌, ◌^◌, ◌≤◌, ◌<◌}
use native.Mathlib.Omega.{arith}
use mathlib.Core.Bool.{Bool, true, false, cond, and-eq-true_iff, false≢true}
use mathlib.Core.Path.{◌≡◌, refl, sym}
use mathlib.Core.List.{List, [], ◌∷◌}
use lib.Dec.{leb, ltb, eqb}
use lib.ListN.{length, length-append, get_or-eq_default}
use borrow.Author.Tests.{ne_eqb, le-leb, leb-true, ltb-true, ltb-false}
use Rattle.std.specs.Prelude.{Some, None, Ok, Err}
use Rattle.outcome.specs.Code.{code_of}
use Rattle.outcome.specs.declared.Refusal.{Refusal}
use Rattle.outcome.specs.declared.Refusal.TheVariants.{NotAllowed, NoRoom, LongLine}
use Rattle.outcome.specs.Answer.{is_no_room, drops}
use Rattle.settings.specs.Table.{entries, freq, send, next_entry, value_of}
use Rattle.settings.specs.Frequency.{is_internal, in_force}
use Rattle.settings.specs.Valid.{value_valid, values_valid}
use Rattle.settings.proofs.Every.{every_at}
use Rattle.storage.specs.Storage.{holds_of}
use Rattle.storage.proofs.Valid.{facts}
use Rattle.status.specs.Bits.{bit_of, meets}
use Rattle.status.specs.Status.{enable_of, other_bits, status_byte}
use Rattle.status.specs.declared.Registers.{Registers}
use Rattle.status.specs.declared.Enables.{Enables}
use Rattle.status.specs.declared.Poll.{Poll}
use Rattle.status.proofs.Bits.{bit_lt}
use Rattle.status.proofs.Flags.{flag_le, other_lt}
use Rattle.format.proofs.Digits.{padded-length}
use Rattle.mnemonic.specs.declared.Register.{Register}
use Rattle.mnemonic.specs.declared.Register.TheVariants.{Standard, Service, Lia, Errors}
use Rattle.line_text.specs.Clean.{cleaned}
use Rattle.line_text.specs.Texts.{semicolon, texts_of}
use Rattle.line_text.proofs.Bound.{cleaned-length}
use Rattle.command.specs.Parsed.{Parsed, parsed_of}
use Rattle.command.specs.declared.QueryArgument.{QueryArgument}
use Rattle.command.specs.declared.QueryArgument.TheVariants as query
use Rattle.command.specs.declared.Kind.{Kind}
use Rattle.command.specs.declared.Kind.TheVariants.{Set, Query, Act}
use Rattle.state.specs.Valid.{installation_valid, valid_state}
use Rattle.state.specs.declared.State.{State}
use Rattle.precondition.specs.Allowed.{query_allowed, is_allowed}
use Rattle.reply_buffer.specs.Buffer.{fits_in}
use Rattle.reply_buffer.proofs.Over.{point_bytes-length}
use Rattle.reply.specs.Text.{value_now, value_text, pair_text, status_now, status_of, identity_text, text_of}
use Rattle.reply.proofs.Texts.{value-length, plain-short}
use Rattle.reply.specs.Reply.{terminated_text, trace_reply, query_reply, reply_of}
use Rattle.state.proofs.Sound.{sound}
use Rattle.line.specs.Perform.{Effect, refused_by, done_by, performed, command_of}
use Rattle.line.specs.Line.{Line, waits, after_of, after_command, run_all, start_line, line_of}
use Rattle.split.proofs.Counted.{parts-length}
use Rattle.queue.specs.declared.LineEnd.TheVariants as ending
use Rattle.lockin.specs.Calls.{guarded, line_end, whole_end, whole_line, line_call}
use Rattle.demand2.proofs.Written.{kept_size}
use Rattle.invariant.proofs.Storable.{StorableParsed, parsed_storable}
use Rattle.invariant.proofs.States.{states_stay}
use Rattle.demand3.specs.Course.{World, after_line, room_too_small}
use Rattle.demand3.proofs.Soundness.{Open, open_valid}
use Rattle.demand3.proofs.Sizes.{Sized, register_byte, enable-byte, after_sized, marked_sized}
use Rattle.settings.specs.Limits.{frequency_low, frequency_high, capacity_least, capacity_most}
use Rattle.state.specs.Valid.{serial_most}
use Rattle.queue.specs.Queue.{line_limit}

-- ---- a reply

-- the longest one: capacity_most points of four bytes each
abbrev most : ℕ
most = 65532

status_lt : (r : Registers) (e : Enables) (p : Poll) → status_byte r e p < 2 ^ 32
unfolding status_byte
status_lt r e p = omega (arith, other_lt r e p, flag_le (meets (other_bits r e p) e.service) 6)

module _ (s : State) (a : valid_state s ≡ true) (k : Sized s) where
  value_small : (e : ℕ) → value_of s.settings e < 2 ^ 32
  unfolding values_valid
  value_small e = by (ltb e entries) refl where
    by : (t : Bool) → ltb e entries ≡ t → value_of s.settings e < 2 ^ 32
    by true p =
        let l = ltb-true e entries p in
        let h = every_at (λ i. value_valid i (value_of s.settings i)) entries (sound s a).tuned.values e l in
        omega (arith, kept_size e (value_of s.settings e) h)
    by false p =
        rw (get_or-eq_default s.settings.values 0 {n = e} (rw k.full (ltb-false e entries p))) (omega arith)

  external_small : s.acquisition.external < 2 ^ 32
  external_small =
      let f = s.acquisition.external in
      let p = (and-eq-true_iff (leb frequency_low f) (leb f frequency_high)).0 (sound s a).tuned.external in
      omega (arith, leb-true f frequency_high p.1)

  now_small : (e : ℕ) → value_now s e < 2 ^ 32
  unfolding value_now in_force
  now_small e = by (eqb e freq) (is_internal s.settings) where
    by : (t u : Bool)
        → cond t (cond u (value_of s.settings freq) s.acquisition.external) (value_of s.settings e) < 2 ^ 32
    by true true = value_small freq
    by true false = external_small
    by false u = value_small e

  held_small : s.acquisition.storage.held ≤ capacity_most
  unfolding installation_valid
  held_small =
      let p = (facts s.acquisition.storage s.installation.capacity (value_of s.settings send) (sound s a).stored).held in
      let u = (and-eq-true_iff (leb s.installation.serial serial_most) _).0 (sound s a).installation in
      let v = (and-eq-true_iff (leb s.installation.port 1) _).0 u.1 in
      let w = (and-eq-true_iff (leb capacity_least s.installation.capacity) (leb s.installation.capacity capacity_most)).0 v.1 in
      omega (arith, leb-true s.installation.capacity capacity_most w.1)

  status_small : (waiting : Bool) (which : Register) → status_of s waiting which < 2 ^ 32
  unfolding status_of status_now
  status_small waiting Standard = omega (arith, register_byte s.registers k.registers Standard)
  status_small waiting Service = status_lt s.registers s.enables _
  status_small waiting Lia = omega (arith, register_byte s.registers k.registers Lia)
  status_small waiting Errors = omega (arith, register_byte s.registers k.registers Errors)

  text-short : (q : QueryArgument) (waiting : Bool) → length (text_of q s waiting) ≤ 32
  unfolding text_of value_text pair_text identity_text
  text-short (query.Value entry) waiting = omega (arith, value-length entry (value_now s entry) (now_small entry))
  text-short (query.Pair entry) waiting =
      rw (length-append)
      (omega (
        arith,
        value-length entry (value_now s entry) (now_small entry),
        value-length (next_entry entry) (value_now s (next_entry entry)) (now_small (next_entry entry)),
      ))
  text-short (query.Enable which) waiting =
      let h = enable-byte s.enables k.enables which in
      omega (arith, plain-short (enable_of s.enables which) (omega arith))
  text-short (query.EnableBit which i) waiting =
      let h = bit_lt (enable_of s.enables which) i in
      omega (arith, plain-short (bit_of (enable_of s.enables which) i) (omega arith))
  text-short (query.Status which) waiting =
      omega (arith, plain-short (status_of s waiting which) (status_small waiting which))
  text-short (query.StatusBit which i) waiting =
      let h = bit_lt (status_of s waiting which) i in
      omega (arith, plain-short (bit_of (status_of s waiting which) i) (omega arith))
  text-short query.Identity waiting = rw (length-append, length-append, padded-length) (omega arith)
  text-short query.Points waiting =
      omega (arith, plain-short s.acquisition.storage.held (omega (arith, held_small)))
  text-short (query.Trace form t bin count) waiting = omega arith

  ended-short : (q : QueryArgument) (waiting : Bool) → length (terminated_text q s waiting) ≤ most
  unfolding terminated_text
  ended-short q waiting = rw (length-append) (omega (arith, text-short q waiting))

  query-short : (q : QueryArgument) (waiting : Bool) (one two : List ℕ) → query_allowed s.acquisition q ≡ true
      → length (query_reply q s waiting one two) ≤ most
  unfolding query_reply trace_reply query_allowed holds_of
  query-short (query.Trace form t bin count) waiting one two h =
      let fits = leb-true (bin + count) s.acquisition.storage.held h in
      rw (point_bytes-length form _ _ count) (omega (arith, held_small))
  query-short (query.Value entry) waiting one two h = ended-short (query.Value entry) waiting
  query-short (query.Pair entry) waiting one two h = ended-short (query.Pair entry) waiting
  query-short (query.Enable which) waiting one two h = ended-short (query.Enable which) waiting
  query-short (query.EnableBit which i) waiting one two h = ended-short (query.EnableBit which i) waiting
  query-short (query.Status which) waiting one two h = ended-short (query.Status which) waiting
  query-short (query.StatusBit which i) waiting one two h = ended-short (query.StatusBit which i) waiting
  query-short query.Identity waiting one two h = ended-short query.Identity waiting
  query-short query.Points waiting one two h = ended-short query.Points waiting

  reply-short : (kind : Kind) (waiting : Bool) (one two : List ℕ) → is_allowed s.settings s.acquisition kind ≡ true
      → length (reply_of kind s waiting one two) ≤ most
  unfolding reply_of is_allowed
  reply-short (Set x) waiting one two h = omega arith
  reply-short (Query q) waiting one two h = query-short q waiting one two h
  reply-short (Act x) waiting one two h = omega arith

-- ---- a command

small : (r : Refusal) → (code_of r).number ≤ 2 → is_no_room r ≡ false
unfolding is_no_room
small r h = ne_eqb (code_of r).number 4 (λ e. omega arith)

-- in a room for the longest reply nothing is refused by 4
record Fits (e : Effect) : Type 0 where
  kept : drops e.report ≡ false
  short : length e.out ≤ most
  sized : Sized e.after

command-fits : (room : ℕ) (waiting : Bool) (p : Parsed) (s : State) (one two : List ℕ) → StorableParsed p
    → valid_state s ≡ true → Sized s → most ≤ room → Fits (command_of room waiting p s one two)
unfolding command_of performed fits_in drops
command-fits room waiting (Ok None) s one two c a k h = record { kept = refl; short = omega arith; sized = k }
command-fits room waiting (Err r) s one two c a k h =
    record { kept = small r c; short = omega arith; sized = marked_sized r s k }
command-fits room waiting (Ok (Some c)) s one two n a k h = by (is_allowed s.settings s.acquisition c.kind) refl where
  reply : List ℕ
  reply = reply_of c.kind s waiting one two

  done : Effect
  done = done_by c.kind reply s one two

  by : (t : Bool) → is_allowed s.settings s.acquisition c.kind ≡ t
      → Fits
      (cond t (cond (leb (length reply) room) done (refused_by NoRoom s one two)) (refused_by NotAllowed s one two))
  by true e =
      let short = reply-short s a k c.kind waiting one two e in
      rw (le-leb (length reply) room (omega arith))
      (unfold done_by in record { kept = refl; short = short; sized = after_sized c.kind s k })
  by false e = record { kept = unfold is_no_room in refl; short = omega arith; sized = marked_sized NotAllowed s k }

-- ---- a line

cond_rest : (t : Bool) (next rest : Line) (P : Line → Type 0) → t ≡ false → P rest → P (cond t next rest)
cond_rest true next rest P e d = absurd (false≢true (sym e))
cond_rest false next rest P e d = d

-- the line after one more command
record CommandFits (room : ℕ) (t : List ℕ) (l : Line) : Type 0 where
  valid : valid_state (after_command room t l).after ≡ true
  sized : Sized (after_command room t l).after
  kept : (after_command room t l).report.dropped ≡ false
  short : length (after_command room t l).out ≤ length l.out + most

step_fits : (room : ℕ) (t : List ℕ) (l : Line) → valid_state l.after ≡ true → Sized l.after
    → length l.out + most ≤ room → CommandFits room t l
unfolding after_command after_of
step_fits room t l a k h =
    let left = room - length l.out in
    let c =
    command-fits left (waits l.out) (parsed_of t) l.after l.one l.two (parsed_storable t) a k (omega arith)
    in
    record {
      valid = (states_stay.command left (waits l.out) t l.after l.one l.two).valid a;
      sized = c.sized;
      kept = c.kept;
      short = rw (length-append) (omega (arith, c.short));
    }

run_fits : (room : ℕ) (ts : List (List ℕ)) (l : Line) → valid_state l.after ≡ true → Sized l.after
    → l.report.dropped ≡ false → length l.out + length ts * most ≤ room
    → ((run_all room ts l).report.dropped ≡ false) × Sized (run_all room ts l).after
unfolding run_all
run_fits room [] l a k e h = (e, k)
run_fits room (t ∷ ts) l a k e h =
    let g = step_fits room t l a k (omega arith) in
    let next = after_command room t l in
    cond_rest next.report.dropped next (run_all room ts next)
    (λ (x : Line). (x.report.dropped ≡ false) × Sized x.after)
    g.kept (run_fits room ts next g.valid g.sized g.kept (omega (arith, g.short)))

-- a line of at most line_limit bytes has at most 257 commands: room for that many of the longest replies
abbrev pub enough : ℕ
enough = 257 * most

module _ (l : List ℕ) (w : World) (o : Open w) (k : Sized w.core.state) where
  ran : Line
  ran = line_of enough l w.core.state w.one w.two

  short-fits : length l ≤ line_limit → (ran.report.dropped ≡ false) × Sized ran.after
  unfolding ran line_of
  short-fits h =
      run_fits enough (texts_of l) (start_line w.core.state w.one w.two) (open_valid w o) k refl
      (omega (arith, parts-length semicolon (cleaned l), cleaned-length l))

  pub room_enough : room_too_small enough l w ≡ false
  unfolding room_too_small ran
  room_enough = by (leb (length l) line_limit) refl where
    by : (t : Bool) → leb (length l) line_limit ≡ t → cond t ran.report.dropped false ≡ false
    by true e = (short-fits (leb-true (length l) line_limit e)).0
    by false e = refl

  -- a line that is too long sets its bit
  pub line_sized : Sized (after_line enough l w).core.state
  unfolding after_line line_call guarded whole_line whole_end line_end ran
  line_sized = rw o (by (leb (length l) line_limit) refl) where
    by : (t : Bool) → leb (length l) line_limit ≡ t →
        Sized (line_end (cond t ending.Line ending.TooLong) enough l w.core.state w.one w.two).after
    by true e = (short-fits (leb-true (length l) line_limit e)).1
    by false e = marked_sized LongLine w.core.state k
