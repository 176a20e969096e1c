-- Demand 2: a setting's reply, sent back, sets the same value. Assumes nothing.
use Prim.Native.Nat.{ℕ, ◌+◌, ◌-◌, ◌*◌, ◌<◌, ◌≤◌}
use mathlib.Core.Path.{◌≡◌, refl, ap, ap₂, ◌∙◌}
use mathlib.Core.Bool.{Bool, true, false, cond, true≢false}
use mathlib.Core.List.{List, [], ◌∷◌, ◌++◌}
use native.Mathlib.Omega.{arith}
use lib.ListN.{length, length-append}
use borrow.Author.Tests.{le-leb}
use Rattle.std.specs.Prelude.{Some}
use Rattle.laws.proofs.Tests.{and_first}
use Rattle.mnemonic.specs.Names.{meaning_of}
use Rattle.mnemonic.specs.declared.Register.{Register}
use Rattle.mnemonic.specs.declared.Meaning.TheVariants.{Setting, Channel, ChannelPair, Enable}
use Rattle.settings.specs.Table.{entries, freq, next_entry, value_of}
use Rattle.settings.specs.Frequency.{is_internal}
use Rattle.status.specs.Status.{enable_of}
use Rattle.outcome.specs.declared.Refusal.TheVariants.{NotAllowed}
use Rattle.outcome.specs.Code.{done}
use Rattle.outcome.specs.Answer.{first_of, is_no_room, drops}
use Rattle.command.specs.Arguments.{comma}
use Rattle.command.specs.declared.SetArgument.{SetArgument}
use Rattle.command.specs.declared.SetArgument.TheVariants as set
use Rattle.command.specs.declared.QueryArgument.{QueryArgument}
use Rattle.command.specs.declared.QueryArgument.TheVariants as query
use Rattle.command.specs.declared.Kind.TheVariants.{Set, Query}
use Rattle.state.specs.Valid.{valid_state}
use Rattle.state.specs.Storing.{stored_in}
use Rattle.state.specs.declared.State.{State}
use Rattle.precondition.specs.Allowed.{set_allowed, query_allowed, is_allowed}
use Rattle.effect.specs.Effect.{registers_asked, storage_after}
use Rattle.effect.specs.Effect.{state_after}
use Rattle.reply_buffer.specs.Buffer.{fits_in}
use Rattle.reply_buffer.specs.After.{silent}
use Rattle.reply.specs.Reply.{terminated_text, query_reply, reply_of}
use Rattle.reply.specs.Text.{value_text, pair_text, text_of, terminator_of}
use Rattle.line.specs.Perform.{refused_by, done_by, performed}
use Rattle.line.specs.Line.{start_line, after_of}
use Rattle.module.specs.Module.{valid_module}
use Rattle.module.specs.declared.Module.{Module}
use Rattle.lockin.specs.Calls.{with_queue, line_ran, line_call}
use Rattle.invariant.specs.Representable.{StateFits}
use Rattle.demand2.specs.Written.{written}
use Rattle.demand2.specs.Demand2 as claim
use Rattle.demand2.specs.Demand2.{Address, at_entry, at_enable, plainly, channelled, alone, channel, pair, enable}
use Rattle.demand2.specs.Demand2.{values_at, reply_to, Ready, answered, OthersStay, CanRefuse, SentBack, taken}
use Rattle.demand2.specs.Demand2.{refused}
use Rattle.demand2.specs.Demand2.{Internal, Settable, RoundTrip, Demand2}
use Rattle.invariant.proofs.Meanings.{name_of_one, name_of_channel, name_of_pair, name_of_enable}
use Rattle.settings.proofs.Values.{next_is}
use Rattle.invariant.proofs.OneCommand.{Says, said_call}
use Rattle.demand2.proofs.Asked.{asked_call}
use Rattle.demand2.proofs.Parsing.{one-asked, one-sent, channel-asked, channel-sent, pair-asked, pair-sent}
use Rattle.demand2.proofs.Parsing.{enable-asked, enable-sent}
use Rattle.demand2.proofs.AfterSet.{kept-value, now_kept, value_after, pair-first, pair-second}
use Rattle.demand2.proofs.Same.{value-others, pair-others, enable-others}
use Rattle.demand2.proofs.Same.{set-refused, value-back, value_same, pair_same, enable-byte, enable-same}
use Rattle.demand2.proofs.Same.{enable-after}
use Rattle.invariant.proofs.StaysValid.{passes}

-- ---- queries that reply text and change nothing

data Quiet : QueryArgument → Type 0 where
  as_value : (entry : ℕ) → Quiet (query.Value entry)
  as_pair : (entry : ℕ) → Quiet (query.Pair entry)
  as_enable : (which : Register) → Quiet (query.Enable which)

module _ (s : State) where
  quiet_same : (q : QueryArgument) → Quiet q → state_after (Query q) s ≡ s
  unfolding state_after registers_asked
  quiet_same _ (as_value entry) = refl
  quiet_same _ (as_pair entry) = refl
  quiet_same _ (as_enable which) = refl

  quiet-valid : (q : QueryArgument) → Quiet q → query_allowed s.acquisition q ≡ true
  unfolding query_allowed
  quiet-valid _ (as_value entry) = refl
  quiet-valid _ (as_pair entry) = refl
  quiet-valid _ (as_enable which) = refl

  quiet-reply : (q : QueryArgument) → Quiet q → (one two : List ℕ) →
      query_reply q s false one two ≡ text_of q s false ++ (terminator_of s.installation.port ∷ [])
  unfolding query_reply terminated_text
  quiet-reply _ (as_value entry) one two = refl
  quiet-reply _ (as_pair entry) one two = refl
  quiet-reply _ (as_enable which) one two = refl

module _ (room : ℕ) (s : State) (one two : List ℕ) where
  -- a set, by whether the state allows it
  set-performed : (a : SetArgument) → performed room false (Set a) s one two
      ≡ cond (set_allowed s.settings s.acquisition a)
      (silent done (state_after (Set a) s) one two)
      (refused_by NotAllowed s one two)
  unfolding performed is_allowed reply_of fits_in done_by storage_after stored_in
  set-performed a = rw (le-leb 0 room (omega arith)) refl

-- ---- one setting in one state

-- how the query and the set of a setting are read, what the query replies, and what the set does
record Trip (a : Address) (s : State) : Type 0 where
  query : QueryArgument
  quiet : Quiet query
  asked : Says a.query (Query query)
  text : text_of query s false ≡ reply_to a s
  set : SetArgument
  sent : Says (a.set (reply_to a s)) (Set set)
  same : (t : State) → StateFits t → valid_state t ≡ true → set_allowed t.settings t.acquisition set ≡ true →
      values_at (state_after (Set set) t) a.holds ≡ values_at s a.holds
  others : (t : State) → OthersStay a.holds t (state_after (Set set) t)
  refuses : (t : State) → set_allowed t.settings t.acquisition set ≡ false → CanRefuse a.holds
  back : Settable a s → set_allowed s.settings s.acquisition set ≡ true
  still : state_after (Set set) s ≡ s

module _ (s : State) (ok : valid_state s ≡ true) (fits : StateFits s) where
  abbrev kept : ℕ → ℕ
  kept entry = value_of s.settings entry

  one-text : (entry : ℕ) → (entry ≡ freq → is_internal s.settings ≡ true) →
      text_of (query.Value entry) s false ≡ written entry (kept entry)
  unfolding text_of value_text
  one-text entry f = rw (now_kept s entry f)

  pair-text : (entry : ℕ) → freq < entry → entry < entries →
      text_of (query.Pair entry) s false
      ≡ written entry (kept entry) ++ comma ∷ written (next_entry entry) (kept (next_entry entry))
  unfolding text_of value_text pair_text
  pair-text entry l h =
      let b = next_is entry h in
      rw (now_kept s entry (λ e. absurd (omega arith)), now_kept s (next_entry entry) (λ e. absurd (omega arith)))

  enable-text : (which : Register) → text_of (query.Enable which) s false ≡ claim.text_at s (at_enable which)
  unfolding text_of
  enable-text which = refl

  back_alone : (name : List ℕ) (entry : ℕ) → meaning_of name ≡ Some (Setting entry) →
      Internal (plainly name (at_entry entry)) s →
      Trip (plainly name (at_entry entry)) s
  back_alone name entry e internal =
      let n = name_of_one name entry e in
      let own : entry ≡ freq → is_internal s.settings ≡ true = λ z. internal (ap (λ x. at_entry x ∷ []) z) in
      record {
        query = query.Value entry;
        quiet = as_value entry;
        asked = one-asked name n.0 entry e;
        text = one-text entry own;
        set = set.Value entry (kept entry);
        sent = one-sent name n.0 entry e (kept entry) (kept-value s ok entry n.1);
        same = λ t f v p. ap (λ x. x ∷ []) (value_after t f.full entry (kept entry) n.1 v p);
        others = λ t. value-others t entry (kept entry);
        refuses = λ t p. set-refused t.settings t.acquisition entry (kept entry) p;
        back = λ settable. value-back s ok entry own (λ z. settable (ap (λ x. at_entry x ∷ []) z));
        still = value_same s ok entry;
      }

  back-enable : (name : List ℕ) (which : Register) → meaning_of name ≡ Some (Enable which) →
      Trip (plainly name (at_enable which)) s
  unfolding set_allowed
  back-enable name which e =
      let n = name_of_enable name which e in
      let v = enable_of s.enables which in
      record {
        query = query.Enable which;
        quiet = as_enable which;
        asked = enable-asked name n which e;
        text = enable-text which;
        set = set.Enable which v;
        sent = enable-sent name n which e v (enable-byte s.enables fits.enables which);
        same = λ t f v p. ap (λ x. x ∷ []) (enable-after s ok fits.enables t which);
        others = λ t. enable-others t which v;
        refuses = λ t p. absurd (true≢false p);
        back = λ settable. refl;
        still = enable-same s ok fits.enables which;
      }

  module _ (name : List ℕ) (base channels i : ℕ) (some : 1 ≤ i) (most : i ≤ channels) where
    back-channel : meaning_of name ≡ Some (Channel base channels) →
        Trip (channelled name i (at_entry (base + (i - 1)) ∷ [])) s
    back-channel e =
        let n = name_of_channel name base channels i some most e in
        let at = base + (i - 1) in
        let past = n.2.past in
        let own : at ≡ freq → is_internal s.settings ≡ true = λ z. absurd (omega arith) in
        record {
          query = query.Value at;
          quiet = as_value at;
          asked = channel-asked name n.0 base channels i some most n.1 e;
          text = one-text at own;
          set = set.Value at (kept at);
          sent = channel-sent name n.0 base channels i some most n.1 e (kept at) n.2
              (kept-value s ok at n.2.inside);
          same = λ t f v p. ap (λ x. x ∷ []) (value_after t f.full at (kept at) n.2.inside v p);
          others = λ t. value-others t at (kept at);
          refuses = λ t p. set-refused t.settings t.acquisition at (kept at) p;
          back = λ settable. value-back s ok at own (λ z. settable (ap (λ x. at_entry x ∷ []) z));
          still = value_same s ok at;
        }

    back-pair : meaning_of name ≡ Some (ChannelPair base channels) →
        Trip (channelled name i (at_entry (base + 2 * (i - 1)) ∷ at_entry (next_entry (base + 2 * (i - 1))) ∷ [])) s
    unfolding set_allowed
    back-pair e =
        let n = name_of_pair name base channels i some most e in
        let at = base + 2 * (i - 1) in
        let past = n.2.past in
        let inside = n.3.inside in
        let b = next_is at n.2.inside in
        record {
          query = query.Pair at;
          quiet = as_pair at;
          asked = pair-asked name n.0 base channels i some most n.1 e;
          text = pair-text at (omega arith) n.2.inside;
          set = set.Pair at (kept at) (kept (next_entry at));
          sent =
              rw b
              (pair-sent name n.0 base channels i some most n.1 e (kept at) (kept (at + 1)) n.2 n.3
              (kept-value s ok at n.2.inside) (kept-value s ok (at + 1) inside));
          same = λ t f v p.
              ap₂ (λ x y. x ∷ y ∷ []) (pair-first t f.full at (kept at) (kept (next_entry at)) past inside)
              (pair-second t f.full at (kept at) (kept (next_entry at)) past inside);
          others = λ t. pair-others t at (kept at) (kept (next_entry at));
          refuses = λ t p. absurd (true≢false p);
          back = λ settable. refl;
          still = pair_same s ok at;
        }

-- ---- the same over the calls

ready_valid : (m : Module) (one two : List ℕ) → Ready m one two → valid_state m.state ≡ true
unfolding valid_module
ready_valid m one two r =
    and_first (valid_state m.state) _ (passes m (length one) (length two) r.passes).valid

module _ (a : Address) (m : Module) (one two : List ℕ) (ready : Ready m one two) (trip : Trip a m.state) where
  asked_here : (room : ℕ) → length (reply_to a m.state) + 1 ≤ room →
      line_call room a.query m one two
      ≡ answered (reply_to a m.state ++ (terminator_of m.state.installation.port ∷ [])) m one two
  asked_here room h =
      let end = terminator_of m.state.installation.port ∷ [] in
      asked_call a.query trip.query trip.asked room m one two ready.passes (reply_to a m.state ++ end)
      (quiet_same m.state trip.query trip.quiet) (quiet-valid m.state trip.query trip.quiet)
      (quiet-reply m.state trip.query trip.quiet one two ∙ ap (λ t. t ++ end) trip.text)
      (rw (length-append (reply_to a m.state) end) h)

  sent_call : (room : ℕ) (t : Module) (first second : List ℕ) → Ready t first second →
      SentBack a.holds (values_at m.state a.holds) t first second
      (line_call room (a.set (reply_to a m.state)) t first second)
  sent_call room t first second other =
      rw (
        said_call (a.set (reply_to a m.state)) (Set trip.set) trip.sent room t first second other.passes,
        set-performed room t.state first second trip.set,
      )
      (by (set_allowed t.state.settings t.state.acquisition trip.set) refl)
    where
      by : (d : Bool) → set_allowed t.state.settings t.state.acquisition trip.set ≡ d →
          SentBack a.holds (values_at m.state a.holds) t first second
          (with_queue t.queue (line_ran (after_of (start_line t.state first second)
          (cond d
          (silent done (state_after (Set trip.set) t.state) first second)
          (refused_by NotAllowed t.state first second)))))
      by true e = unfold after_of first_of drops in taken _ refl
          (trip.same t.state other.fits.state (ready_valid t first second other) e) (trip.others t.state)
      by false e = unfold after_of first_of drops is_no_room in refused (trip.refuses t.state e)

  back_call : Settable a m.state → (room : ℕ) →
      line_call room (a.set (reply_to a m.state)) m one two ≡ answered [] m one two
  back_call settable room =
      said_call (a.set (reply_to a m.state)) (Set trip.set) trip.sent room m one two ready.passes
      ∙ rw (set-performed room m.state one two trip.set, trip.back settable, trip.still)
      (unfold after_of first_of drops in refl)

  round_trip : RoundTrip a m one two
  round_trip = record { asked = asked_here; sent = sent_call; back = back_call }

pub demand2 : Demand2
demand2 a setting m one two ready internal =
    let ok = ready_valid m one two ready in
    let fits = ready.fits.state in
    round_trip a m one two ready (by a setting internal ok fits)
  where
    by : (a : Address) → claim.IsSetting a → Internal a m.state → valid_state m.state ≡ true →
        StateFits m.state → Trip a m.state
    by _ (alone name entry e) internal ok fits = back_alone m.state ok fits name entry e internal
    by _ (channel name base channels i e some most) internal ok fits =
        back-channel m.state ok fits name base channels i some most e
    by _ (pair name base channels i e some most) internal ok fits =
        back-pair m.state ok fits name base channels i some most e
    by _ (enable name which e) internal ok fits = back-enable m.state ok fits name which e
