-- Every call keeps what the module and its traces hold of the history. Assumes nothing.
use Prim.Native.Nat.{ℕ, ◌-◌, ◌≤◌}
use native.Mathlib.Nat.{zero-mod}
use native.Mathlib.Omega.{arith}
use mathlib.Core.Bool.{Bool, true, false, cond, not, and-eq-true_iff}
use mathlib.Core.List.{List, [], ◌∷◌, ◌++◌}
use mathlib.Core.Path.{◌≡◌, refl, sym, ap, ◌∙◌}
use lib.Dec.{eqb}
use lib.ListN.{length, set}
use lib.Seq.{get_or-set_other}
use borrow.Author.Tests.{eqb-true, eqb-false, eq-eqb, le-leb}
use Rattle.std.specs.Prelude.{Some, None, Ok, Err}
use Rattle.outcome.specs.declared.Refusal.{Refusal}
use Rattle.settings.specs.Table.{oflt, send, next_entry, value_of, with_value}
use Rattle.settings.specs.Frequency.{is_internal}
use Rattle.storage.specs.Storage as storage
use Rattle.storage.specs.declared.Storage.{Storage}
use Rattle.storage.proofs.Valid.{facts}
use Rattle.storage.proofs.Preserved.{Same, keeps_next, started-same, paused_same, readied_same, readied_keeps, room}
use Rattle.mnemonic.specs.declared.Action.{Action}
use Rattle.mnemonic.specs.declared.Action.TheVariants as action
use Rattle.command.specs.Parsed.{Parsed, parsed_of}
use Rattle.command.specs.declared.SetArgument.{SetArgument}
use Rattle.command.specs.declared.SetArgument.TheVariants as set
use Rattle.command.specs.declared.QueryArgument.{QueryArgument}
use Rattle.command.specs.declared.Kind.{Kind}
use Rattle.command.specs.declared.Kind.TheVariants.{Set, Query, Act}
use Rattle.status.specs.Status.{with_lia, with_raised, may_raise}
use Rattle.state.specs.State.{pair_of, sampling_of, with_registers, with_latest, range_settled, settled}
use Rattle.state.specs.State.{with_error_bit}
use Rattle.state.specs.Storing.{trigger_of, tick_of, sampled_by, stored_in}
use Rattle.state.specs.Valid.{latest_valid, valid_state}
use Rattle.state.specs.declared.State.{State}
use Rattle.precondition.specs.Allowed.{value_allowed, set_allowed, is_allowed}
use Rattle.effect.specs.Effect.{with_pair, set_in, storage_by, storage_after}
use Rattle.effect.specs.Effect.{state_after}
use Rattle.reply_buffer.specs.Buffer.{fits_in}
use Rattle.reply.specs.Reply.{reply_of}
use Rattle.line.specs.Perform.{Effect, done_by, performed, command_of}
use Rattle.line.specs.Line.{Line, waits, start_line, after_of, after_command, run_all, line_of}
use Rattle.line_text.specs.Texts.{texts_of}
use Rattle.event.specs.Event.{not_taken, done, refused, latest_taken, takes_frequency, with_external}
use Rattle.event.specs.Event.{measured_by, bits_raised, sampled_in, event_of}
use Rattle.event.specs.declared.Event.{Event}
use Rattle.event.specs.declared.Event.TheVariants as event
use Rattle.state.proofs.Sound.{sound}
use Rattle.invariant.specs.States.{StatePreserved}
use Rattle.points.specs.Points.{History, Holds, after_tick, after_trigger, history_after_event, after_action}
use Rattle.points.specs.Points.{after_kind}
use Rattle.points.specs.Points.{after_text, after_texts}
use Rattle.points.specs.Points as points
use Rattle.invariant.proofs.Command.{performed_by}
use Rattle.invariant.proofs.Storable.{StorableSet, Storable, StorableParsed, parsed_storable}
use Rattle.invariant.proofs.States.{states_stay}
use Rattle.points.proofs.Slots.{next-mod, longer, more_lies}

-- a valid state, and a slot of each trace for each point
pub record Fits (s : State) (one two : List ℕ) : Type 0 where
  pub valid : valid_state s ≡ true
  pub first : length one ≡ s.installation.capacity
  pub second : length two ≡ s.installation.capacity

pub fits_after : (s t : State) (one two first second : List ℕ) → StatePreserved s t one two first second
    → Fits s one two →
    Fits t first second
fits_after s t one two first second k f =
    record {
      valid = k.valid f.valid;
      first = k.first-length ∙ rw k.installation f.first;
      second = k.second-length ∙ rw k.installation f.second;
    }

stored-kept : (s : State) → valid_state s ≡ true →
    storage.is_valid s.acquisition.storage s.installation.capacity (value_of s.settings send) ≡ true
stored-kept s h = (sound s h).stored

pub some_slot : (s : State) → valid_state s ≡ true → 1 ≤ s.installation.capacity
some_slot s h =
    omega (
      arith,
      keeps_next s.acquisition.storage s.installation.capacity (value_of s.settings send)
          (stored-kept s h),
    )

-- nothing is stored since storage was emptied
pub emptied_holds : (t : State) (one two : List ℕ) → t.acquisition.storage ≡ storage.emptied_storage
    → Holds [] t one two
emptied_holds t one two e =
    record {
      held = ap (λ (x : Storage). x.held) e ∙ omega arith;
      next = ap (λ (x : Storage). x.next) e ∙ omega (arith, zero-mod t.installation.capacity);
      first = λ n l u. absurd (omega arith);
      second = λ n l u. absurd (omega arith);
      whole = λ e. omega arith;
    }

module _ (history : History) (s t : State) (one two : List ℕ) (h : Holds history s one two)
    (installation : t.installation ≡ s.installation) where
  -- neither the points held nor the next slot change
  same-holds : Same t.acquisition.storage s.acquisition.storage
      → (value_of t.settings send ≡ storage.one_shot → length history ≤ s.installation.capacity)
      → Holds history t one two
  same-holds same whole =
      record {
        held = same.held ∙ rw installation h.held;
        next = same.next ∙ rw installation h.next;
        first = rw installation h.first;
        second = rw installation h.second;
        whole = rw installation whole;
      }

  like_holds : t.acquisition.storage ≡ s.acquisition.storage
      → value_of t.settings send ≡ value_of s.settings send →
      Holds history t one two
  like_holds same end =
      same-holds (record { held = ap (λ (x : Storage). x.held) same; next = ap (λ (x : Storage). x.next) same })
      (λ e. h.whole (sym end ∙ e))

  -- one more pair, from storage that runs
  module _ (f : Fits s one two) (ready : Storage) (same : Same ready s.acquisition.storage)
      (end : value_of t.settings send ≡ value_of s.settings send)
      (kept : storage.is_valid ready s.installation.capacity (value_of s.settings send) ≡ true) where
    more_holds : storage.is_running ready ≡ true →
        t.acquisition.storage ≡ storage.stored_of ready s.installation.capacity (value_of s.settings send)
        → Holds (history ++ (s.latest ∷ [])) t
        (set one s.acquisition.storage.next s.latest.one)
        (set two s.acquisition.storage.next s.latest.two)
    unfolding storage.stored_of storage.held_after
    more_holds running e =
        let c = s.installation.capacity in
        let some = some_slot s f.valid in
        let more = longer history s.latest in
        let held = h.held in
        let before = same.held in
        record {
          held = ap (λ (x : Storage). x.held) e ∙ rw (installation, more) (omega arith);
          next = ap (λ (x : Storage). x.next) e ∙ rw (installation, more, same.next, h.next)
              (next-mod (length history) c some);
          first = rw (installation, h.next)
              (more_lies (λ p. p.one) history s.latest c one some f.first h.first);
          second = rw (installation, h.next)
              (more_lies (λ p. p.two) history s.latest c two some f.second h.second);
          whole = λ shot.
              let free = room ready c (value_of s.settings send) running kept
              (eq-eqb (value_of s.settings send) storage.one_shot (sym end ∙ shot)) in
              rw (installation, more) (omega arith);
        }

    -- the latest pair is stored, or not
    sampled_holds : (stores : Bool) → (stores ≡ true → storage.is_running ready ≡ true)
        → t.acquisition.storage ≡ storage.storing stores ready s.installation.capacity
        (value_of s.settings send)
        → Holds (points.pair_stored stores s history) t
        (cond stores (set one s.acquisition.storage.next s.latest.one) one)
        (cond stores (set two s.acquisition.storage.next s.latest.two) two)
    sampled_holds true running e = more_holds (running refl) e
    sampled_holds false running e =
        same-holds
        (record {
          held = ap (λ (x : Storage). x.held) e ∙ same.held;
          next = ap (λ (x : Storage). x.next) e ∙ same.next;
        })
        (λ shot. h.whole (sym end ∙ shot))

-- ---- ticks and triggers

module _ (history : History) (s t : State) (one two : List ℕ) (h : Holds history s one two) (f : Fits s one two)
    (installation : t.installation ≡ s.installation)
    (end : value_of t.settings send ≡ value_of s.settings send) where
  tick_holds : t.acquisition.storage ≡ (tick_of s).storage
      → Holds (after_tick s history) t
      (stored_in (tick_of s) s s.latest.one one) (stored_in (tick_of s) s s.latest.two two)
  unfolding tick_of storage.ticked_of sampling_of stored_in after_tick storage.tick_stores
  tick_holds e =
      let by = sampling_of s.settings in
      sampled_holds history s t one two h installation f s.acquisition.storage
      (record { held = refl; next = refl }) end
      (stored-kept s f.valid)
      (storage.tick_stores s.acquisition.storage by)
      (λ p.
      ((and-eq-true_iff (storage.is_running s.acquisition.storage) (not (eqb by.rate storage.external_rate))).0 p).0)
      e

  trigger_holds : t.acquisition.storage ≡ (trigger_of s).storage
      → Holds (after_trigger s history) t
      (stored_in (trigger_of s) s s.latest.one one) (stored_in (trigger_of s) s s.latest.two two)
  unfolding trigger_of storage.triggered_of sampling_of stored_in after_trigger storage.trigger_stores
  trigger_holds e =
      let by = sampling_of s.settings in
      let ready = storage.readied_of s.acquisition.storage by in
      sampled_holds history s t one two h installation f ready (readied_same s.acquisition.storage by) end
      (readied_keeps s.acquisition.storage s.installation.capacity by (stored-kept s f.valid))
      (storage.trigger_stores s.acquisition.storage by)
      (λ p. ((and-eq-true_iff (storage.is_running ready) (eqb by.rate storage.external_rate)).0 p).0) e

-- ---- events

module _ (history : History) (s : State) (one two : List ℕ) (h : Holds history s one two) (f : Fits s one two) where
  -- a state with the same storage, SEND and installation
  abbrev As : State → Type 0
  As t = Holds history t one two

  measured_holds : (x : ℕ) → As (measured_by x s)
  unfolding measured_by settled range_settled
  measured_holds x = by (is_internal s.settings) (takes_frequency s x) where
    by : (a b : Bool) →
        As (cond a s
        (cond b (settled (with_external x s)) (with_registers (with_lia s.registers not_taken) s)))
    by true b = h
    by false true =
        like_holds history s (settled (with_external x s)) one two h refl refl
        (get_or-set_other s.settings.values oflt send _ 0 (omega arith))
    by false false = like_holds history s (with_registers (with_lia s.registers not_taken) s) one two h refl refl refl

  pair-holds : (w v : ℕ) → As (latest_taken w v s).state
  unfolding latest_taken
  pair-holds w v = by (latest_valid (pair_of w v)) where
    by : (t : Bool) → As (cond t (done (with_latest (pair_of w v) s)) (refused s)).state
    by true = like_holds history s (with_latest (pair_of w v) s) one two h refl refl refl
    by false = h

  raised_holds : (lia errors : ℕ) → As (bits_raised lia errors s).state
  unfolding bits_raised
  raised_holds lia errors = by (may_raise lia errors) where
    by : (t : Bool) → As (cond t (done (with_registers (with_raised s.registers lia errors) s)) (refused s)).state
    by true = like_holds history s (with_registers (with_raised s.registers lia errors) s) one two h refl refl refl
    by false = h

  pub event-holds : (e : Event) →
      let o = event_of e s one two in
      Holds (history_after_event e s history) o.after o.one o.two
  unfolding event_of sampled_in sampled_by history_after_event
  event-holds event.Tick = tick_holds history s (sampled_by (tick_of s) s) one two h f refl refl refl
  event-holds event.Trigger = trigger_holds history s (sampled_by (trigger_of s) s) one two h f refl refl refl
  event-holds (event.Latest w v) = pair-holds w v
  event-holds (event.Measured x) = measured_holds x
  event-holds (event.Raised lia errors) = raised_holds lia errors

  -- ---- commands

  pub marked-holds : (r : Refusal) → As (with_error_bit r s)
  unfolding with_error_bit
  marked-holds r = like_holds history s (with_error_bit r s) one two h refl refl refl

  -- SEND is set only where storage is reset, which holds none
  end-set : (v : ℕ) → value_allowed s.settings s.acquisition send v ≡ true
      → length history ≤ s.installation.capacity
  unfolding value_allowed
  end-set v p =
      let none = (facts s.acquisition.storage s.installation.capacity (value_of s.settings send)
      (stored-kept s f.valid)).none p in
      omega (arith, h.held, some_slot s f.valid)

  value_set : (e v : ℕ) → value_allowed s.settings s.acquisition e v ≡ true →
      value_of (with_value s.settings e v) send ≡ storage.one_shot
      → length history ≤ s.installation.capacity
  value_set e v p = by (eqb send e) refl where
    by : (t : Bool) → eqb send e ≡ t → value_of (with_value s.settings e v) send ≡ storage.one_shot →
        length history ≤ s.installation.capacity
    by true q shot = end-set v (rw (← eqb-true send e q) at p)
    by false q shot = h.whole (sym (get_or-set_other s.settings.values e send v 0 (eqb-false send e q)) ∙ shot)

  settings-set : (a : SetArgument) → StorableSet a → set_allowed s.settings s.acquisition a ≡ true →
      value_of (set_in s.settings a) send ≡ storage.one_shot
      → length history ≤ s.installation.capacity
  unfolding set_in with_pair set_allowed
  settings-set (set.Value e v) k p shot = value_set e v p shot
  settings-set (set.Pair e v w) k p shot =
      h.whole
      (sym (get_or-set_other s.settings.values e send v 0 (omega arith))
      ∙ sym (get_or-set_other (with_value s.settings e v).values (next_entry e) send w 0 (omega arith)) ∙ shot)
  settings-set (set.Enable r v) k p shot = h.whole shot
  settings-set (set.EnableBit r i v) k p shot = h.whole shot

  set_holds : (a : SetArgument) → StorableSet a → set_allowed s.settings s.acquisition a ≡ true
      → As (state_after (Set a) s)
  unfolding state_after settled range_settled
  set_holds a k p =
      same-holds history s (state_after (Set a) s) one two h refl (record { held = refl; next = refl })
      (λ shot.
      settings-set a k p (sym (get_or-set_other (set_in s.settings a).values oflt send _ 0 (omega arith)) ∙ shot))

  query-holds : (q : QueryArgument) → As (state_after (Query q) s)
  unfolding state_after
  query-holds q = like_holds history s (state_after (Query q) s) one two h refl refl refl

  act_holds : (a : Action) (reply : List ℕ) →
      let e = done_by (Act a) reply s one two in
      Holds (after_action a s history) e.after e.one e.two
  unfolding done_by state_after sampled_by storage_after storage_by stored_in trigger_of after_action
  act_holds action.Reset reply = emptied_holds (state_after (Act action.Reset) s) one two refl
  act_holds action.Empty reply = emptied_holds (state_after (Act action.Empty) s) one two refl
  act_holds action.Trigger reply =
      trigger_holds history s (state_after (Act action.Trigger) s) one two h f refl refl refl
  act_holds action.Start reply =
      same-holds history s (state_after (Act action.Start) s) one two h refl (started-same s.acquisition.storage)
      h.whole
  act_holds action.Pause reply =
      same-holds history s (state_after (Act action.Pause) s) one two h refl (paused_same s.acquisition.storage)
      h.whole
  act_holds action.Clear reply = like_holds history s (state_after (Act action.Clear) s) one two h refl refl refl

  -- a command that was read; one without arguments is never refused
  kind_holds : (kind : Kind) → Storable kind → (room : ℕ) (waiting : Bool) →
      let e = performed room waiting kind s one two in
      Holds (after_kind kind s history) e.after e.one e.two
  unfolding after_kind performed done_by storage_after stored_in is_allowed reply_of fits_in
  kind_holds (Set a) k room waiting =
      performed_by room waiting s one two (λ (e : Effect). Holds history e.after e.one e.two) (Set a)
      (λ r n. marked-holds r) (set_holds a k)
  kind_holds (Query q) k room waiting =
      performed_by room waiting s one two (λ (e : Effect). Holds history e.after e.one e.two) (Query q)
      (λ r n. marked-holds r) (λ p. query-holds q)
  kind_holds (Act a) k room waiting = rw (le-leb 0 room (omega arith)) (act_holds a [])

  text-holds : (p : Parsed) → StorableParsed p → (room : ℕ) (waiting : Bool) →
      let e = command_of room waiting p s one two in
      Holds (after_text p s history) e.after e.one e.two
  unfolding command_of after_text
  text-holds (Ok None) k room waiting = h
  text-holds (Err r) k room waiting = marked-holds r
  text-holds (Ok (Some c)) k room waiting = kind_holds c.kind k room waiting

-- ---- lines

module _ (room : ℕ) where
  step-holds : (text : List ℕ) (l : Line) (history : History) → Fits l.after l.one l.two →
      Holds history l.after l.one l.two →
      let n = after_command room text l in
      Holds (after_text (parsed_of text) l.after history) n.after n.one n.two
  unfolding after_command after_of
  step-holds text l history f h =
      text-holds history l.after l.one l.two h f (parsed_of text) (parsed_storable text)
      (room - length l.out)
      (waits l.out)

  step_fits : (text : List ℕ) (l : Line) → Fits l.after l.one l.two →
      let n = after_command room text l in
      Fits n.after n.one n.two
  unfolding after_command after_of
  step_fits text l f =
      let n = after_command room text l in
      fits_after l.after n.after l.one l.two n.one n.two
      (states_stay.command (room - length l.out) (waits l.out) text l.after l.one l.two) f

  run_holds : (texts : List (List ℕ)) (l : Line) (history : History) → Fits l.after l.one l.two →
      Holds history l.after l.one l.two →
      let n = run_all room texts l in
      Holds (after_texts room texts l history) n.after n.one n.two
  unfolding run_all after_texts
  run_holds [] l history f h = h
  run_holds (text ∷ more) l history f h =
      by next.report.dropped (run_holds more next now (step_fits text l f) (step-holds text l history f h))
    where
      next : Line
      next = after_command room text l

      last : Line
      last = run_all room more next

      now : History
      now = after_text (parsed_of text) l.after history

      by : (t : Bool) → Holds (after_texts room more next now) last.after last.one last.two →
          let n = cond t next last in
          Holds (cond t now (after_texts room more next now)) n.after n.one n.two
      by true p = step-holds text l history f h
      by false p = p

  pub line-holds : (line : List ℕ) (s : State) (one two : List ℕ) (history : History) → Fits s one two →
      Holds history s one two →
      let n = line_of room line s one two in
      Holds (points.history_after_line room line s one two history) n.after n.one n.two
  unfolding line_of
  line-holds line s one two history f h = run_holds (texts_of line) (start_line s one two) history f h
