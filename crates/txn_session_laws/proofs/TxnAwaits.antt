-- What the lines of a transaction await behind each turn.
use Rattle.std.proofs.Common.{◌≡◌, ◌⊎◌, inl, inr, ℕ, zero, suc, ◌+◌, ◌<◌, ◌≢◌, Bool, true, false, not, List, [], ◌∷◌, length, map, filter, get_or, Option, Some, None, refl, sym, ap, ◌∙◌, subst, arith}
use Rattle.std.specs.Prelude.{nat_lt, if◌then◌else◌}
use Rattle.std.proofs.lemmas.Bool.{true≢false, cond_both, eqb-true}
use Rattle.truetime.specs.Reading.{Reading}
use Rattle.rss_names.specs.declared.service.Target.{Target}
use Rattle.rss_wire.specs.declared.messages.Holder.{Holder}
use Rattle.rss_wire.specs.declared.messages.Outcome.{Outcome}
use Rattle.rss_wire.specs.declared.messages.Outcome.TheVariants as outcomes
use Rattle.rss_wire.specs.declared.messages.Reply.{Reply}
use Rattle.rss_wire.specs.declared.messages.Request.{Request}
use Rattle.rss_tables.specs.Lines.{Line, coordinator_of, with_line, in_state, inquiry, decision_request, all_awaiting, shards_of}
use Rattle.rss_tables.specs.Outs.{Out, line_out}
use Rattle.rss_tables.specs.TransactionSession.{TxnSession, attempt_of, leads, txn_request, asks_lines, goes_to_prepare, goes_to_free, goes_to_free_last, is_prepared, is_wounded, line_goes, wait_of, is_committed, is_decided, txn_end}
use Rattle.rss_tables.specs.Turns.{Turn, quiet}
use Rattle.rss_tables.specs.declared.lines.LineState.{LineState}
use Rattle.rss_tables.specs.declared.lines.LineState.TheVariants.{Awaiting, Answered, Inquiring, Resolving, Asleep, Dropped}
use Rattle.rss_tables.specs.declared.phases.TxnPhase.{TxnPhase}
use Rattle.rss_tables.specs.declared.phases.TxnPhase.TheVariants as phase
use Rattle.session_laws.specs.Awaits.{awaited_by, txn_awaits}
use Rattle.session_laws.specs.Cases.{answered, shown_line, timed_line, other_lines, TxnTurn, granted, prepares, frees, prepared, decides, released, frees_last, fails, wounded, commits, waits, aborts, undone, blocked, resolves, sleeps, asks}
use Rattle.session_laws.specs.Frames.{Frame, frame_of, nth_line, IsLine, AreApartShards}
use Rattle.session_laws.proofs.Frames.{with_line_frames}
use Rattle.session_laws.proofs.LineLaws.{length_with_line, length_mapped, nth_map, nth_all_awaiting_each}
use Rattle.session_laws.proofs.TxnCases.{none_awaited}
use Rattle.shard_event_laws.specs.Facts.{no_out}
use Rattle.txn_session_laws.specs.Standing.{is_led, TxnLed}
use Rattle.txn_session_laws.proofs.Currents.{SlotAwaits, TurnAwaits, ends_turn, asks_turn, AsksLine, goes_turn, asks_none, asks_one}
use Rattle.txn_session_laws.proofs.Led.{only_asked, led_line}
use Rattle.txn_session_laws.proofs.Requests.{coordinator_same, values_with_line, request_same, request_of_keys, is_asking, asking_awaits, awaiting_asks, awaits_same, IsAskedAs, asked_await, told_await}

-- what the lines of a transaction await behind a turn
abbrev pub TxnTurnAwaits : List Line → (Line → Option (Target × Request)) → Line → Turn TxnSession → Type 0
TxnTurnAwaits lines awaits l turn = TurnAwaits lines awaits l turn.anew turn.after.lines (txn_awaits turn.after turn.after.phase) turn.outs (txn_end turn.after.phase)

-- a line goes on by itself
abbrev with_new : TxnSession → Line → TxnSession
with_new x new = record x { lines = with_line x.lines new }

goes_request : (x : TxnSession) (l new m : Line) → IsLine x.lines l → AreApartShards x.lines → frame_of new ≡ frame_of l → (x.phase ≡ phase.Preparing → new.shown ≡ l.shown) → txn_request (with_new x new) x.phase m ≡ txn_request x x.phase m
goes_request x l new m is apart e s = request_same x (with_line x.lines new) x.phase m (coordinator_same (with_line x.lines new) x.lines (with_line_frames x.lines l new is apart e))
    (λ p. values_with_line x l new is apart (ap (λ (f : Frame). f.shard) e) (s p))

goes_line : (x : TxnSession) (l new : Line) (outs : List Out) → IsLine x.lines l → AreApartShards x.lines → frame_of new ≡ frame_of l → (x.phase ≡ phase.Preparing → new.shown ≡ l.shown)
    → (txn_end x.phase ≡ None → (i : ℕ) → i < length outs → AsksLine l new (txn_awaits (with_new x new) x.phase) (get_or outs i no_out))
    → TxnTurnAwaits x.lines (txn_awaits x x.phase) l (line_goes x new outs)
goes_line x l new outs is apart e s a = goes_turn x.lines l new (txn_awaits x x.phase) (txn_awaits (with_new x new) x.phase) outs (txn_end x.phase) is (ap (λ (f : Frame). f.shard) e)
    (λ g m. awaits_same x (with_new x new) x.phase m (goes_request x l new m is apart e s)) a

-- it is answered, and others are still to answer
answers_line : (x : TxnSession) (l new : Line) → IsLine x.lines l → AreApartShards x.lines → frame_of new ≡ frame_of l → (x.phase ≡ phase.Preparing → new.shown ≡ l.shown) → TxnTurnAwaits x.lines (txn_awaits x x.phase) l (quiet (answered x new))
answers_line x l new is apart e s = goes_line x l (in_state new Answered) [] is apart e s (λ g. asks_none l (in_state new Answered) _)

-- it asks for another's decision, passes one on, sleeps, and asks again
pub inquires_line : (x : TxnSession) (l : Line) (holder : Holder) → IsLine x.lines l → AreApartShards x.lines → (txn_end x.phase ≡ None → is_asking x.phase ≡ true) → TxnTurnAwaits x.lines (txn_awaits x x.phase) l (line_goes x (in_state l (Inquiring holder)) (inquiry l.shard holder ∷ []))
inquires_line x l holder is apart p = goes_line x l (in_state l (Inquiring holder)) (inquiry l.shard holder ∷ []) is apart refl (λ q. refl)
    (λ g. asks_one l (in_state l (Inquiring holder)) _ (inquiry l.shard holder) (record { slot = refl; awaited = asking_awaits (with_new x (in_state l (Inquiring holder))) x.phase (in_state l (Inquiring holder)) (p g) }))

resolves_line : (x : TxnSession) (l : Line) (holder : Holder) (outcome : Outcome) → IsLine x.lines l → AreApartShards x.lines → is_asking x.phase ≡ true → TxnTurnAwaits x.lines (txn_awaits x x.phase) l (line_goes x (in_state l (Resolving holder outcome)) (line_out l.shard (decision_request holder.attempt outcome) ∷ []))
resolves_line x l holder outcome is apart p = goes_line x l (in_state l (Resolving holder outcome)) (line_out l.shard (decision_request holder.attempt outcome) ∷ []) is apart refl (λ q. refl)
    (λ g. asks_one l (in_state l (Resolving holder outcome)) _ (line_out l.shard (decision_request holder.attempt outcome)) (record { slot = refl; awaited = asking_awaits (with_new x (in_state l (Resolving holder outcome))) x.phase (in_state l (Resolving holder outcome)) p }))

sleeps_line : (x : TxnSession) (l : Line) (holder : Holder) → IsLine x.lines l → AreApartShards x.lines → TxnTurnAwaits x.lines (txn_awaits x x.phase) l (line_goes x (in_state l (Asleep holder)) [])
sleeps_line x l holder is apart = goes_line x l (in_state l (Asleep holder)) [] is apart refl (λ q. refl) (λ g. asks_none l (in_state l (Asleep holder)) _)

asks_line : (x : TxnSession) (l : Line) → IsLine x.lines l → AreApartShards x.lines → is_asking x.phase ≡ true → TxnTurnAwaits x.lines (txn_awaits x x.phase) l (line_goes x (in_state l Awaiting) (line_out l.shard (txn_request x x.phase l) ∷ []))
asks_line x l is apart p = goes_line x l (in_state l Awaiting) (line_out l.shard (txn_request x x.phase l) ∷ []) is apart refl (λ q. refl)
    (λ g. asks_one l (in_state l Awaiting) _ (line_out l.shard (txn_request x x.phase l)) (record {
      slot = refl;
      awaited = asking_awaits (with_new x (in_state l Awaiting)) x.phase (in_state l Awaiting) p
          ∙ ap (awaited_by Awaiting l.shard) (goes_request x l (in_state l Awaiting) (in_state l Awaiting) is apart refl (λ q. refl) ∙ request_of_keys x x.phase (in_state l Awaiting) l refl refl);
    }))

-- how a transaction stands behind its locks, behind an abort, and behind a guard that failed
abbrev prepared_to : TxnSession → Reading → TxnSession
prepared_to x at = record x { phase = phase.Preparing; earliest_end = at.latest + x.margin; lines = all_awaiting x.lines }

abbrev begun_again : TxnSession → TxnSession
begun_again x = record x { k = x.k + 1; phase = phase.Locking; lines = map (λ (l : Line). record l { state = Awaiting; shown = []; prepare_time = 0 }) x.lines }

abbrev freed_to : TxnSession → ℕ → TxnSession
freed_to x time = record x { phase = phase.Freeing time; lines = map (λ (m : Line). if leads x m then m else in_state m Awaiting) x.lines }

-- a line among those that pass a test is one of the lines
pub record IsAmong (test : Line → Bool) (lines : List Line) (i : ℕ) : Type 0 where
  pub place : ℕ
  pub inside : place < length lines
  pub at : nth_line lines place ≡ nth_line (filter test lines) i
  pub passes : test (nth_line lines place) ≡ true

among_more : (test : Line → Bool) (m : Line) (lines : List Line) (i j : ℕ) → IsAmong test lines i → nth_line (filter test (m ∷ lines)) j ≡ nth_line (filter test lines) i → IsAmong test (m ∷ lines) j
among_more test m lines i j a e = record { place = suc a.place; inside = (let k = a.inside in omega (arith, k)); at = a.at ∙ sym e; passes = a.passes }

pub other_at : (test : Line → Bool) (lines : List Line) (i : ℕ) → i < length (filter test lines) → IsAmong test lines i
other_at test [] i h = absurd (omega (arith, h))
other_at test (m ∷ lines) i h = by_test (test m) refl i h (other_at test lines)
  where
    by_test : (b : Bool) → test m ≡ b → (i : ℕ) → i < length (filter test (m ∷ lines)) → ((j : ℕ) → j < length (filter test lines) → IsAmong test lines j) → IsAmong test (m ∷ lines) i
    by_test true e zero h ih = record { place = 0; inside = omega arith; at = rw e refl; passes = e }
    by_test true e (suc i) h ih = among_more test m lines i (suc i) (ih i (let k : suc i < suc (length (filter test lines)) = rw e at h in omega (arith, k))) (rw e refl)
    by_test false e i h ih = among_more test m lines i i (ih i (rw e at h)) (rw e refl)

not_true : (b : Bool) → not b ≡ true → b ≡ false
not_true false e = refl
not_true true e = absurd (true≢false (sym e))

module _ (lines : List Line) (awaits : Line → Option (Target × Request)) (l : Line) where
  -- all lines are asked to prepare
  prepares_await : (x : TxnSession) (at : Reading) → TxnTurnAwaits lines awaits l (goes_to_prepare x at)
  prepares_await x at = asks_turn lines awaits l (prepared_to x at).lines (txn_awaits (prepared_to x at) phase.Preparing) (asks_lines (prepared_to x at) (prepared_to x at).lines) None
      (asked_await (prepared_to x at) (prepared_to x at).lines refl (λ i h. record { place = i; inside = h; shard = refl; state = ap (λ (m : Line). m.state) (nth_all_awaiting_each x.lines i); request = refl }))

  -- the coordinator alone is asked
  one_asked : (u : TxnSession) (m : Line) → IsAskedAs u m → (i : ℕ) → i < length (m ∷ []) → IsAskedAs u (nth_line (m ∷ []) i)
  one_asked u m a zero h = a
  one_asked u m a (suc i) h = absurd (omega (arith, h))

  one_await : (u : TxnSession) (m : Line) → is_asking u.phase ≡ true → IsAskedAs u m → (i : ℕ) → i < length (asks_lines u (m ∷ [])) → (slot : ℕ) → (get_or (asks_lines u (m ∷ [])) i no_out).slot ≡ Some slot
      → SlotAwaits u.lines (txn_awaits u u.phase) slot (get_or (asks_lines u (m ∷ [])) i no_out).target (get_or (asks_lines u (m ∷ [])) i no_out).request
  one_await u m p a = asked_await u (m ∷ []) p (one_asked u m a)

  frees_last_await : (x : TxnSession) (time : ℕ) → 0 < length x.lines → TxnTurnAwaits lines awaits l (goes_to_free_last x time)
  frees_last_await x time n = asks_turn lines awaits l _ _ _ None (one_await (goes_to_free_last x time).after _ refl (only_asked (goes_to_free_last x time).after x.lines refl n))

  decides_await : (x : TxnSession) → 0 < length x.lines → TxnTurnAwaits lines awaits l (is_prepared x)
  decides_await x n = asks_turn lines awaits l _ _ _ None (one_await (is_prepared x).after _ refl (only_asked (is_prepared x).after x.lines refl n))

  wounded_await : (x : TxnSession) → 0 < length x.lines → TxnTurnAwaits lines awaits l (is_wounded x)
  wounded_await x n = asks_turn lines awaits l _ _ _ None (one_await (is_wounded x).after _ refl (only_asked (is_wounded x).after x.lines refl n))

  -- the next attempt begins
  aborts_await : (x : TxnSession) (at : Reading) → TxnTurnAwaits lines awaits l (is_decided x at outcomes.Aborted)
  aborts_await x at = asks_turn lines awaits l (begun_again x).lines (txn_awaits (begun_again x) phase.Locking) _ None
      (told_await (begun_again x) (attempt_of x) outcomes.Aborted (shards_of x.lines) (asks_lines (begun_again x) (begun_again x).lines)
      (asked_await (begun_again x) (begun_again x).lines refl (λ i h. record { place = i; inside = h; shard = refl; state = ap (λ (m : Line). m.state) (nth_map _ x.lines i (subst (λ (n : ℕ). i < n) (length_mapped _ x.lines) h)); request = refl })))

  -- the others than the coordinator are asked to release
  frees_await : (x : TxnSession) (time : ℕ) (others : List Line) → others ≡ other_lines x → 0 < length x.lines → TxnTurnAwaits lines awaits l (goes_to_free x time others)
  frees_await x time [] e n = frees_last_await x time n
  frees_await x time (m ∷ others) e n = asks_turn lines awaits l (freed_to x time).lines (txn_awaits (freed_to x time) (phase.Freeing time)) (asks_lines (freed_to x time) (m ∷ others)) None
      (asked_await (freed_to x time) (m ∷ others) refl (λ i h. asked i (other_at (λ (k : Line). not (leads x k)) x.lines i (subst (λ (ms : List Line). i < length ms) e h))))
    where
      asked : (i : ℕ) → IsAmong (λ (k : Line). not (leads x k)) x.lines i → IsAskedAs (freed_to x time) (nth_line (m ∷ others) i)
      asked i o = record {
        place = o.place;
        inside = subst (λ (k : ℕ). o.place < k) (sym (length_mapped (λ (k : Line). if leads x k then k else in_state k Awaiting) x.lines)) o.inside;
        shard = ap (λ (k : Line). k.shard) at ∙ ap (λ (k : Line). k.shard) o.at ∙ ap (λ (ms : List Line). (nth_line ms i).shard) (sym e);
        state = ap (λ (k : Line). k.state) at;
        request = refl;
      }
        where
          at : nth_line (freed_to x time).lines o.place ≡ in_state (nth_line x.lines o.place) Awaiting
          at = nth_map (λ (k : Line). if leads x k then k else in_state k Awaiting) x.lines o.place o.inside ∙ ap (λ (b : Bool). if b then nth_line x.lines o.place else in_state (nth_line x.lines o.place) Awaiting) (not_true (leads x (nth_line x.lines o.place)) o.passes)

-- the turn of a transaction that hears a reply
waits_await : (x : TxnSession) (l : Line) (p q : TxnPhase) → x.phase ≡ p → is_led p ≡ true → l.state ≡ Awaiting → IsLine x.lines l → TxnLed x → TxnTurnAwaits x.lines (txn_awaits x x.phase) l (quiet (record x { phase = q }))
waits_await x l p q e n s is led = record {
  kept = λ g a place h apart target r w. absurd (alone place h apart target r w);
  sent = λ g i h. absurd (omega (arith, h));
}
  where
    alone : (place : ℕ) → place < length x.lines → ((nth_line x.lines place).shard ≡ l.shard → ⊥) → (target : Target) (r : Request) → txn_awaits x x.phase (nth_line x.lines place) ≡ Some (target, r) → ⊥
    alone place h apart target r w = by_lead (leads x (nth_line x.lines place)) refl (led.each (ap is_led e ∙ n) place h) (led_line x l led (ap is_led e ∙ n) is)
      where
        dropped : (nth_line x.lines place).state ≡ Dropped → ⊥
        dropped d = none_awaited (target, r)
            (sym (ap (λ (st : LineState). awaited_by st (nth_line x.lines place).shard (txn_request x x.phase (nth_line x.lines place))) d)
            ∙ sym (asking_awaits x x.phase (nth_line x.lines place) (awaiting_asks x x.phase (nth_line x.lines place) target r w)) ∙ w)

        awaits_not : l.state ≡ Dropped → ⊥
        awaits_not d = absurd cc

        by_lead : (b : Bool) → leads x (nth_line x.lines place) ≡ b → (nth_line x.lines place).state ≡ (if leads x (nth_line x.lines place) then Awaiting else Dropped) → (l.state ≡ Awaiting) × (leads x l ≡ true) ⊎ (l.state ≡ Dropped) → ⊥
        by_lead true f d (inl k) = apart (eqb-true (nth_line x.lines place).shard (coordinator_of x.lines) f ∙ sym (eqb-true l.shard (coordinator_of x.lines) k.1))
        by_lead true f d (inr k) = awaits_not k
        by_lead false f d k = dropped (d ∙ ap (λ (b : Bool). if b then Awaiting else Dropped) f)

undone_await : (x : TxnSession) (l : Line) (at : Reading) (time : ℕ) → x.phase ≡ phase.Undoing → l.state ≡ Awaiting → IsLine x.lines l → TxnLed x
    → TxnTurnAwaits x.lines (txn_awaits x x.phase) l (if nat_lt (wait_of x time) at.earliest then is_committed x time else quiet (record x { phase = phase.Waiting time }))
undone_await x l at time p s is led = cond_both (nat_lt (wait_of x time) at.earliest) (is_committed x time) (quiet (record x { phase = phase.Waiting time })) (TxnTurnAwaits x.lines (txn_awaits x x.phase) l)
    (λ e. ends_turn _ _ l _ _ _ _ time) (λ e. waits_await x l phase.Undoing (phase.Waiting time) p refl s is led)

-- a phase is not another
other_phase : {A : Type 0} (x : TxnSession) (p : TxnPhase) → x.phase ≡ p → p ≢ phase.Preparing → x.phase ≡ phase.Preparing → A
other_phase x p e n q = absurd (n (sym e ∙ q))

locking_not : phase.Locking ≢ phase.Preparing
locking_not e = cc

freeing_not : (time : ℕ) → phase.Freeing time ≢ phase.Preparing
freeing_not time e = cc

some_answered : (x : TxnSession) (new : Line) → 0 < length x.lines → 0 < length (answered x new).lines
some_answered x new n = subst (λ (k : ℕ). 0 < k) (sym (length_with_line x.lines (in_state new Answered))) n

pub turn_awaits : (x : TxnSession) (l : Line) (at : Reading) (r : Reply) (turn : Turn TxnSession) → IsLine x.lines l → AreApartShards x.lines → 0 < length x.lines → TxnLed x → is_asking x.phase ≡ true → TxnTurn x l at r turn → TxnTurnAwaits x.lines (txn_awaits x x.phase) l turn
turn_awaits x l at _ _ is apart n led p (granted shown q s e) = answers_line x l (shown_line l shown) is apart refl (other_phase x phase.Locking q locking_not)
turn_awaits x l at _ _ is apart n led p (prepares shown q s e g) = prepares_await x.lines (txn_awaits x x.phase) l (answered x (shown_line l shown)) at
turn_awaits x l at _ _ is apart n led p (frees shown q s e g) = frees_await x.lines (txn_awaits x x.phase) l (answered x (shown_line l shown)) _ _ refl (some_answered x (shown_line l shown) n)
turn_awaits x l at _ _ is apart n led p (prepared time q s e) = answers_line x l (timed_line l time) is apart refl (λ k. refl)
turn_awaits x l at _ _ is apart n led p (decides time q s e) = decides_await x.lines (txn_awaits x x.phase) l (answered x (timed_line l time)) (some_answered x (timed_line l time) n)
turn_awaits x l at _ _ is apart n led p (released time q s e) = answers_line x l l is apart refl (λ k. refl)
turn_awaits x l at _ _ is apart n led p (frees_last time q s e) = frees_last_await x.lines (txn_awaits x x.phase) l (answered x l) time (some_answered x l n)
turn_awaits x l at _ _ is apart n led p (fails time q s) = ends_turn _ _ l _ _ _ _ time
turn_awaits x l at _ _ is apart n led p (wounded q s) = wounded_await x.lines (txn_awaits x x.phase) l x n
turn_awaits x l at _ _ is apart n led p (commits d time q s e) = ends_turn _ _ l _ _ _ _ time
turn_awaits x l at _ _ is apart n led p (waits d time q s e) = waits_await x l (phase.Deciding d) (phase.Waiting time) q refl s is led
turn_awaits x l at _ _ is apart n led p (aborts q s) = aborts_await x.lines (txn_awaits x x.phase) l x at
turn_awaits x l at _ _ is apart n led p (undone time q s) = undone_await x l at time q s is led
turn_awaits x l at _ _ is apart n led p (blocked holder holders q s) = inquires_line x l holder is apart (λ g. p)
turn_awaits x l at _ _ is apart n led p (resolves holder outcome s) = resolves_line x l holder outcome is apart p
turn_awaits x l at _ _ is apart n led p (sleeps holder s) = sleeps_line x l holder is apart
turn_awaits x l at _ _ is apart n led p (asks holder outcome s) = asks_line x l is apart p
