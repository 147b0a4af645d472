-- What a transaction asks its lines: where that stays, and which lines await it.
use Rattle.std.proofs.Common.{◌≡◌, ◌⊎◌, inl, inr, ℕ, zero, suc, ◌+◌, ◌-◌, ◌<◌, ◌≤◌, Bool, true, false, List, [], ◌∷◌, ◌++◌, length, map, filter, get_or, Some, None, refl, sym, ap, ◌∙◌, subst, arith, length-append}
use Rattle.std.specs.Prelude.{◌==◌, if◌then◌else◌}
use Rattle.std.proofs.lemmas.Bool.{true≢false, cond_both, eqb-true}
use Rattle.std.proofs.lemmas.List.{length-map}
use Rattle.std.proofs.lemmas.List as lists
use Rattle.rss_names.specs.declared.attempt.Attempt.{Attempt}
use Rattle.rss_names.specs.declared.service.Key.{Key}
use Rattle.rss_names.specs.declared.service.Target.{Target}
use Rattle.rss_names.specs.declared.service.Target.TheVariants.{Shard}
use Rattle.pipeline_lang.specs.declared.script.Expr.{Expr}
use Rattle.rss_model.specs.Formula.{formula_value}
use Rattle.rss_wire.specs.declared.messages.Outcome.{Outcome}
use Rattle.rss_wire.specs.declared.messages.Request.{Request}
use Rattle.rss_wire.specs.declared.messages.Request.TheVariants as request
use Rattle.rss_wire.specs.declared.messages.Version.{Version}
use Rattle.rss_tables.specs.Lines.{Line, no_line, coordinator_of, with_line, shown_on, version_in, version_or, tells_decision}
use Rattle.rss_tables.specs.Locks.{has_key}
use Rattle.rss_tables.specs.Outs.{Out, line_out, line_slot}
use Rattle.rss_tables.specs.TransactionSession.{TxnSession, attempt_of, values_shown, computed, writes_on, txn_request, asks_lines}
use Rattle.rss_tables.specs.declared.lines.LineState.{LineState}
use Rattle.rss_tables.specs.declared.lines.LineState.TheVariants.{Awaiting}
use Rattle.rss_tables.specs.declared.phases.TxnPhase.{TxnPhase}
use Rattle.rss_tables.specs.declared.phases.TxnPhase.TheVariants as phase
use Rattle.world_laws.proofs.Looks.{some_is, none_is_not, get_or_append}
use Rattle.session_laws.specs.Awaits.{awaited_by, txn_awaits}
use Rattle.session_laws.specs.Frames.{frames_of, nth_line, IsLine, AreApartShards}
use Rattle.session_laws.proofs.Frames.{frames_shard}
use Rattle.session_laws.proofs.TxnCases.{none_awaited}
use Rattle.shard_event_laws.specs.Facts.{no_out}
use Rattle.txn_session_laws.proofs.Currents.{SlotAwaits}

-- the coordinator is the shard of the first line
coordinator_nth : (lines : List Line) → coordinator_of lines ≡ (nth_line lines 0).shard
coordinator_nth [] = refl
coordinator_nth (l ∷ lines) = refl

pub coordinator_same : (u v : List Line) → frames_of u ≡ frames_of v → coordinator_of u ≡ coordinator_of v
coordinator_same u v e = coordinator_nth u ∙ frames_shard u v e 0 ∙ sym (coordinator_nth v)

-- lines that are changed but for what they show, show the same
shown_same : (f : Line → Line) (key : Key) (lines : List Line) → ((i : ℕ) → i < length lines → (f (nth_line lines i)).shown ≡ (nth_line lines i).shown) → shown_on (map f lines) key ≡ shown_on lines key
shown_same f key [] h = refl
shown_same f key (l ∷ lines) h =
    ap (λ (shown : List (Key × Version)). version_or (version_in shown key) (shown_on (map f lines) key)) (h 0 (omega arith))
    ∙ ap (λ (v : Version). version_or (version_in l.shown key) v) (shown_same f key lines (λ i k. h (suc i) (omega (arith, k))))

values_same : (u v : List Line) → ((key : Key) → shown_on u key ≡ shown_on v key) → (keys : List Key) → map (λ (key : Key). (shown_on u key).value) keys ≡ map (λ (key : Key). (shown_on v key).value) keys
values_same u v h [] = refl
values_same u v h (key ∷ keys) =
    ap (λ (value : ℕ). value ∷ map (λ (other : Key). (shown_on u other).value) keys) (ap (λ (x : Version). x.value) (h key))
    ∙ ap (λ (values : List ℕ). (shown_on v key).value ∷ values) (values_same u v h keys)

-- a line is replaced by one that shows the same
pub values_with_line : (x : TxnSession) (l new : Line) → IsLine x.lines l → AreApartShards x.lines → new.shard ≡ l.shard → new.shown ≡ l.shown → values_shown (record x { lines = with_line x.lines new }) ≡ values_shown x
values_with_line x l new is apart e s = values_same (with_line x.lines new) x.lines (λ key. shown_same (λ (m : Line). if m.shard == new.shard then new else m) key x.lines at_place) x.reads
  where
    at_place : (i : ℕ) → i < length x.lines → (if (nth_line x.lines i).shard == new.shard then new else nth_line x.lines i).shown ≡ (nth_line x.lines i).shown
    at_place i h = cond_both ((nth_line x.lines i).shard == new.shard) new (nth_line x.lines i) (λ (m : Line). m.shown ≡ (nth_line x.lines i).shown)
        (λ t. s ∙ ap (λ (m : Line). m.shown) (sym is.at)
        ∙ ap (λ (j : ℕ). (nth_line x.lines j).shown) (sym (apart i is.place h is.inside (eqb-true (nth_line x.lines i).shard new.shard t ∙ e ∙ ap (λ (m : Line). m.shard) (sym is.at)))))
        (λ t. refl)

-- what is asked depends on the lines by their coordinator, and in the second phase by what they show
pub request_same : (x : TxnSession) (lines : List Line) (p : TxnPhase) (m : Line) → coordinator_of lines ≡ coordinator_of x.lines → (p ≡ phase.Preparing → values_shown (record x { lines = lines }) ≡ values_shown x)
    → txn_request (record x { lines = lines }) p m ≡ txn_request x p m
request_same x lines phase.Locking m c v = ap (λ (n : ℕ). request.Lock (attempt_of x) n m.reads m.writes) c
request_same x lines phase.Preparing m c v =
    ap (λ (values : List ℕ). request.Prepare (attempt_of x) x.least x.earliest_end (writes_on m (map (λ (write : Key × Expr ℕ). (write.0, formula_value write.1 values)) x.writes))) (v refl)
request_same x lines (phase.Freeing time) m c v = refl
request_same x lines (phase.FreeingLast time) m c v = refl
request_same x lines (phase.Deciding time) m c v = refl
request_same x lines phase.Undoing m c v = refl
request_same x lines (phase.Waiting time) m c v = refl
request_same x lines (phase.Committed time) m c v = refl
request_same x lines (phase.Failed time) m c v = refl

-- and on the line by its keys
pub request_of_keys : (x : TxnSession) (p : TxnPhase) (m n : Line) → m.reads ≡ n.reads → m.writes ≡ n.writes → txn_request x p m ≡ txn_request x p n
request_of_keys x phase.Locking m n r w = ap (λ (reads : List Key). request.Lock (attempt_of x) (coordinator_of x.lines) reads m.writes) r ∙ ap (λ (writes : List Key). request.Lock (attempt_of x) (coordinator_of x.lines) n.reads writes) w
request_of_keys x phase.Preparing m n r w = by_writes m.writes n.writes w
  where
    by_writes : (u v : List Key) → u ≡ v → request.Prepare (attempt_of x) x.least x.earliest_end (filter (λ (write : Key × ℕ). has_key u write.0) (computed x)) ≡ request.Prepare (attempt_of x) x.least x.earliest_end (filter (λ (write : Key × ℕ). has_key v write.0) (computed x))
    by_writes u v e = ap (λ (keys : List Key). request.Prepare (attempt_of x) x.least x.earliest_end (filter (λ (write : Key × ℕ). has_key keys write.0) (computed x))) e
request_of_keys x (phase.Freeing time) m n r w = refl
request_of_keys x (phase.FreeingLast time) m n r w = refl
request_of_keys x (phase.Deciding time) m n r w = refl
request_of_keys x phase.Undoing m n r w = refl
request_of_keys x (phase.Waiting time) m n r w = refl
request_of_keys x (phase.Committed time) m n r w = refl
request_of_keys x (phase.Failed time) m n r w = refl

-- the phases in which lines are asked
abbrev pub is_asking : TxnPhase → Bool
is_asking phase.Locking = true
is_asking phase.Preparing = true
is_asking (phase.Freeing time) = true
is_asking (phase.FreeingLast time) = true
is_asking (phase.Deciding time) = true
is_asking phase.Undoing = true
is_asking (phase.Waiting time) = false
is_asking (phase.Committed time) = false
is_asking (phase.Failed time) = false

pub asking_awaits : (x : TxnSession) (p : TxnPhase) (m : Line) → is_asking p ≡ true → txn_awaits x p m ≡ awaited_by m.state m.shard (txn_request x p m)
asking_awaits x phase.Locking m e = refl
asking_awaits x phase.Preparing m e = refl
asking_awaits x (phase.Freeing time) m e = refl
asking_awaits x (phase.FreeingLast time) m e = refl
asking_awaits x (phase.Deciding time) m e = refl
asking_awaits x phase.Undoing m e = refl
asking_awaits x (phase.Waiting time) m e = absurd (true≢false (sym e))
asking_awaits x (phase.Committed time) m e = absurd (true≢false (sym e))
asking_awaits x (phase.Failed time) m e = absurd (true≢false (sym e))

pub awaiting_asks : (x : TxnSession) (p : TxnPhase) (m : Line) (target : Target) (q : Request) → txn_awaits x p m ≡ Some (target, q) → is_asking p ≡ true
awaiting_asks x phase.Locking m target q e = refl
awaiting_asks x phase.Preparing m target q e = refl
awaiting_asks x (phase.Freeing time) m target q e = refl
awaiting_asks x (phase.FreeingLast time) m target q e = refl
awaiting_asks x (phase.Deciding time) m target q e = refl
awaiting_asks x phase.Undoing m target q e = refl
awaiting_asks x (phase.Waiting time) m target q e = none_awaited (target, q) e
awaiting_asks x (phase.Committed time) m target q e = none_awaited (target, q) e
awaiting_asks x (phase.Failed time) m target q e = none_awaited (target, q) e

pub awaits_same : (x y : TxnSession) (p : TxnPhase) (m : Line) → txn_request y p m ≡ txn_request x p m → txn_awaits y p m ≡ txn_awaits x p m
awaits_same x y phase.Locking m e = ap (awaited_by m.state m.shard) e
awaits_same x y phase.Preparing m e = ap (awaited_by m.state m.shard) e
awaits_same x y (phase.Freeing time) m e = ap (awaited_by m.state m.shard) e
awaits_same x y (phase.FreeingLast time) m e = ap (awaited_by m.state m.shard) e
awaits_same x y (phase.Deciding time) m e = ap (awaited_by m.state m.shard) e
awaits_same x y phase.Undoing m e = ap (awaited_by m.state m.shard) e
awaits_same x y (phase.Waiting time) m e = refl
awaits_same x y (phase.Committed time) m e = refl
awaits_same x y (phase.Failed time) m e = refl

-- a line awaits what another line is asked, on the same shard
pub record IsAskedAs (x : TxnSession) (m : Line) : Type 0 where
  pub place : ℕ
  pub inside : place < length x.lines
  pub shard : (nth_line x.lines place).shard ≡ m.shard
  pub state : (nth_line x.lines place).state ≡ Awaiting
  pub request : txn_request x x.phase (nth_line x.lines place) ≡ txn_request x x.phase m

-- lines that are asked await it
pub asked_await : (x : TxnSession) (asked : List Line) → is_asking x.phase ≡ true → ((i : ℕ) → i < length asked → IsAskedAs x (nth_line asked i)) → (i : ℕ) → i < length (asks_lines x asked) → (slot : ℕ) → (get_or (asks_lines x asked) i no_out).slot ≡ Some slot
    → SlotAwaits x.lines (txn_awaits x x.phase) slot (get_or (asks_lines x asked) i no_out).target (get_or (asks_lines x asked) i no_out).request
asked_await x asked p each i h slot e = subst (λ (out : Out). out.slot ≡ Some slot → SlotAwaits x.lines (txn_awaits x x.phase) slot out.target out.request) (sym at) of_line e
  where
    inside : i < length asked
    inside = subst (λ (n : ℕ). i < n) (length-map asked (λ (l : Line). line_out l.shard (txn_request x x.phase l))) h

    at : get_or (asks_lines x asked) i no_out ≡ line_out (nth_line asked i).shard (txn_request x x.phase (nth_line asked i))
    at = lists.get_or-map (λ (l : Line). line_out l.shard (txn_request x x.phase l)) asked i no_line no_out inside

    of_line : Some (line_slot (nth_line asked i).shard) ≡ Some slot → SlotAwaits x.lines (txn_awaits x x.phase) slot (Shard (nth_line asked i).shard) (txn_request x x.phase (nth_line asked i))
    of_line f = record {
      place = (each i inside).place;
      inside = (each i inside).inside;
      of_line = sym (some_is (line_slot (nth_line asked i).shard) slot f) ∙ ap line_slot (sym (each i inside).shard);
      awaited = asking_awaits x x.phase (nth_line x.lines (each i inside).place) p
          ∙ ap (λ (st : LineState). awaited_by st (nth_line x.lines (each i inside).place).shard (txn_request x x.phase (nth_line x.lines (each i inside).place))) (each i inside).state
          ∙ awaiting_both _ _ _ _ (each i inside).shard (each i inside).request;
    }
      where
        awaiting_both : (a b : ℕ) (q r : Request) → a ≡ b → q ≡ r → awaited_by Awaiting a q ≡ awaited_by Awaiting b r
        awaiting_both a b q r d e = ap (λ (n : ℕ). awaited_by Awaiting n q) d ∙ ap (λ (y : Request). awaited_by Awaiting b y) e

-- behind what is told, to which no reply is awaited
told_none : (a : Attempt) (outcome : Outcome) (shards : List ℕ) (i : ℕ) → (get_or (tells_decision a outcome shards) i no_out).slot ≡ None
told_none a outcome [] i = none_at i
  where
    none_at : (i : ℕ) → (get_or {A = Out} [] i no_out).slot ≡ None
    none_at zero = refl
    none_at (suc i) = refl
told_none a outcome (shard ∷ shards) zero = refl
told_none a outcome (shard ∷ shards) (suc i) = told_none a outcome shards i

pub told_await : (x : TxnSession) (a : Attempt) (outcome : Outcome) (shards : List ℕ) (outs : List Out) → ((i : ℕ) → i < length outs → (slot : ℕ) → (get_or outs i no_out).slot ≡ Some slot → SlotAwaits x.lines (txn_awaits x x.phase) slot (get_or outs i no_out).target (get_or outs i no_out).request)
    → (i : ℕ) → i < length (tells_decision a outcome shards ++ outs) → (slot : ℕ) → (get_or (tells_decision a outcome shards ++ outs) i no_out).slot ≡ Some slot
    → SlotAwaits x.lines (txn_awaits x x.phase) slot (get_or (tells_decision a outcome shards ++ outs) i no_out).target (get_or (tells_decision a outcome shards ++ outs) i no_out).request
told_await x a outcome shards outs each i h slot e = by_place (get_or_append (tells_decision a outcome shards) outs i no_out)
  where
    by_place : ((get_or (tells_decision a outcome shards ++ outs) i no_out ≡ get_or (tells_decision a outcome shards) i no_out) × (i < length (tells_decision a outcome shards))) ⊎ ((get_or (tells_decision a outcome shards ++ outs) i no_out ≡ get_or outs (i - length (tells_decision a outcome shards)) no_out) × (length (tells_decision a outcome shards) ≤ i))
        → SlotAwaits x.lines (txn_awaits x x.phase) slot (get_or (tells_decision a outcome shards ++ outs) i no_out).target (get_or (tells_decision a outcome shards ++ outs) i no_out).request
    by_place (inl f) = absurd (none_is_not slot (sym (told_none a outcome shards i) ∙ ap (λ (out : Out). out.slot) (sym f.0) ∙ e))
    by_place (inr f) = subst (λ (out : Out). SlotAwaits x.lines (txn_awaits x x.phase) slot out.target out.request) (sym f.0)
        (each (i - length (tells_decision a outcome shards)) (let n : length (tells_decision a outcome shards ++ outs) ≡ length (tells_decision a outcome shards) + length outs = length-append (tells_decision a outcome shards) outs in let k = f.1 in omega (arith, n, h, k)) slot (ap (λ (out : Out). out.slot) (sym f.0) ∙ e))
