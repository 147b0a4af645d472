-- What is known of transactions and snapshots is kept by each event.
use Rattle.std.proofs.Common.{◌≡◌, ℕ, zero, suc, ◌-◌, ◌<◌, ◌≤◌, Bool, true, false, List, [], ◌∷◌, ◌++◌, length, All, Option, Some, None, refl, sym, ap, ◌∙◌, subst, arith}
use Rattle.std.specs.Prelude.{nat_lt, if◌then◌else◌}
use Rattle.std.proofs.Math.ListN.{set, length-set}
use Rattle.std.proofs.lemmas.Bool.{cond_both}
use Rattle.truetime.specs.Reading.{Reading}
use Rattle.rss_names.specs.declared.attempt.Attempt.{Attempt}
use Rattle.rss_names.specs.declared.service.Key.{Key}
use Rattle.rss_names.specs.declared.service.Target.{Target}
use Rattle.causal_context.specs.LeastTimes.{least_of}
use Rattle.pipeline_lang.specs.Config.{home_of, body_of}
use Rattle.pipeline_lang.specs.declared.config.Config.{Config}
use Rattle.pipeline_lang.specs.declared.script.Compare.{Compare}
use Rattle.pipeline_lang.specs.declared.script.Expr.{Expr}
use Rattle.rss_model.specs.declared.op.Op.{Op}
use Rattle.rss_model.specs.declared.op.Op.TheVariants as op
use Rattle.rss_wire.specs.declared.messages.Outcome.{Outcome}
use Rattle.rss_wire.specs.declared.messages.Outcome.TheVariants as outcomes
use Rattle.rss_wire.specs.declared.messages.Reply.{Reply}
use Rattle.rss_wire.specs.declared.messages.Request.{Request}
use Rattle.rss_tables.specs.Lines.{Line, line_at}
use Rattle.rss_tables.specs.Outs.{Out, slot_shard}
use Rattle.rss_tables.specs.ShardRow.{shard_after}
use Rattle.rss_tables.specs.SnapshotSession.{SnapSession, opening_snapshot, snap_hears}
use Rattle.rss_tables.specs.TransactionSession.{TxnSession, opening_txn, txn_hears, txn_passes, written_keys, goes_to_free, is_committed, is_decided, wait_of}
use Rattle.rss_tables.specs.Turns.{Turn, quiet}
use Rattle.rss_tables.specs.declared.phases.TxnPhase.{TxnPhase}
use Rattle.rss_tables.specs.declared.phases.TxnPhase.TheVariants as phase
use Rattle.rss_machine.specs.Calls.{least_for}
use Rattle.rss_machine.specs.Effect.{waking_line}
use Rattle.rss_machine.specs.Enabling.{can_wake}
use Rattle.rss_machine.specs.Session.{Session, service_of}
use Rattle.rss_machine.specs.State.{State, Owner, owner_at, shard_at}
use Rattle.rss_machine.specs.declared.session.OwnerKind.TheVariants as kind
use Rattle.rss_machine.specs.declared.session.Session.TheVariants as session
use Rattle.world_laws.proofs.Looks.{some_is, none_is_not}
use Rattle.session_laws.specs.Frames.{IsLine, SameTxn, SameSnap}
use Rattle.session_laws.specs.Awaits.{txn_awaits, snap_awaits}
use Rattle.session_laws.specs.Cases.{answered, shown_line, TxnTurn, granted, prepares, frees, prepared, decides, released, frees_last, fails, wounded, commits, waits, aborts, undone, blocked, resolves, sleeps, asks}
use Rattle.session_laws.specs.SnapCases.{SnapTurn}
use Rattle.session_laws.proofs.Keeps.{same_txn, same_snap, txn_turn_same, txn_wake_same, txn_pass_same, snap_turn_same, snap_wake_same}
use Rattle.session_laws.proofs.SnapCases.{snap_case}
use Rattle.session_laws.proofs.TxnCases.{txn_case}
use Rattle.shard_event_laws.specs.Events.{Event, aside, begins_txn, begins_snapshot, txn_hears_one, snap_hears_one, txn_wakes_one, snap_wakes_one, txn_passes_time, sends_again, serves_one, stub_asks, stub_tells, turned_owner, left_to_await, Turns, Launches, SettlesTo, SendsAgain}
use Rattle.shard_event_laws.specs.Known.{Known}
use Rattle.txn_state_laws.specs.Awaited.{LineHears, AnswersHeard}
use Rattle.txn_laws.specs.Files.{IsKey, is_some_key, NamesKeys, OpNamed}
use Rattle.txn_state_laws.specs.Framed.{TxnFramed, SnapFramed, AllFramed}
use Rattle.txn_state_laws.proofs.Grows.{txn_is, snap_is}
use Rattle.txn_session_laws.specs.Standing.{NoneFirst}
use Rattle.txn_session_laws.proofs.Named.{lines_of_fit}
use Rattle.txn_session_laws.proofs.FramedOwners.{one_there, one_settling, txn_or_snap, txn_or_settling, snap_or_settling, idle_or_txn, idle_or_snap, idle_or_settling}
use Rattle.txn_session_laws.proofs.Framed.{txn_later, snap_later, same_goes, txn_stays, GoesOn, framed_stays, framed_one, framed_aside}

-- the number of an attempt does not fall
free_attempt : (x : TxnSession) (time : ℕ) (others : List Line) → x.k ≤ (goes_to_free x time others).after.k
free_attempt x time [] = omega arith
free_attempt x time (l ∷ others) = omega arith

decided_attempt : (x : TxnSession) (at : Reading) (outcome : Outcome) → x.k ≤ (is_decided x at outcome).after.k
decided_attempt x at (outcomes.Committed time) =
    cond_both (nat_lt (wait_of x time) at.earliest) (is_committed x time) (quiet (record x { phase = phase.Waiting time })) (λ (y : Turn TxnSession). x.k ≤ y.after.k) (λ e. omega arith) (λ e. omega arith)
decided_attempt x at outcomes.Aborted = omega arith

turn_attempt : (x : TxnSession) (l : Line) (at : Reading) (r : Reply) (turn : Turn TxnSession) → TxnTurn x l at r turn → x.k ≤ turn.after.k
turn_attempt x l at _ _ (granted shown p s e) = omega arith
turn_attempt x l at _ _ (prepares shown p s e g) = omega arith
turn_attempt x l at _ _ (frees shown p s e g) = free_attempt (answered x (shown_line l shown)) _ _
turn_attempt x l at _ _ (prepared time p s e) = omega arith
turn_attempt x l at _ _ (decides time p s e) = omega arith
turn_attempt x l at _ _ (released time p s e) = omega arith
turn_attempt x l at _ _ (frees_last time p s e) = omega arith
turn_attempt x l at _ _ (fails time p s) = omega arith
turn_attempt x l at _ _ (wounded p s) = omega arith
turn_attempt x l at _ _ (commits d time p s e) = omega arith
turn_attempt x l at _ _ (waits d time p s e) = omega arith
turn_attempt x l at _ _ (aborts p s) = decided_attempt x at outcomes.Aborted
turn_attempt x l at _ _ (undone time p s) = decided_attempt x at (outcomes.Committed time)
turn_attempt x l at _ _ (blocked holder holders p s) = omega arith
turn_attempt x l at _ _ (resolves holder outcome s) = omega arith
turn_attempt x l at _ _ (sleeps holder s) = omega arith
turn_attempt x l at _ _ (asks holder outcome s) = omega arith

pass_attempt : (x : TxnSession) (p : TxnPhase) → x.k ≤ (txn_passes x p).after.k
pass_attempt x (phase.Waiting time) = omega arith
pass_attempt x phase.Locking = omega arith
pass_attempt x phase.Preparing = omega arith
pass_attempt x (phase.Freeing time) = omega arith
pass_attempt x (phase.FreeingLast time) = omega arith
pass_attempt x (phase.Deciding time) = omega arith
pass_attempt x phase.Undoing = omega arith
pass_attempt x (phase.Committed time) = omega arith
pass_attempt x (phase.Failed time) = omega arith

-- the line that wakes is one of the lines, and can wake
pub waking_is : (s : State) (lines : List Line) (l : Line) → waking_line s lines ≡ Some l → IsLine lines l × (can_wake s l ≡ true)
waking_is s [] l e = absurd (none_is_not l e)
waking_is s (m ∷ lines) l e = by_test (can_wake s m) refl e (waking_is s lines l)
  where
    by_test : (b : Bool) → can_wake s m ≡ b → (if b then Some m else waking_line s lines) ≡ Some l → (waking_line s lines ≡ Some l → IsLine lines l × (can_wake s l ≡ true)) → IsLine (m ∷ lines) l × (can_wake s l ≡ true)
    by_test true f g ih =
        let h : m ≡ l = some_is m l g in
        (record { place = 0; inside = omega arith; at = h }, subst (λ (n : Line). can_wake s n ≡ true) h f)
    by_test false f g ih =
        let h = ih g in
        (record { place = suc h.0.place; inside = (let i = h.0.inside in omega (arith, i)); at = h.0.at }, h.1)

-- the line that hears is one of the lines
pub heard_line : (s : State) (slot : ℕ) (lines : List Line) (awaits : Line → Option (Target × Request)) (r : Reply) → LineHears s slot lines awaits r → IsLine lines (line_at lines (slot_shard slot))
heard_line s slot lines awaits r h = record { place = h.place; inside = h.inside; at = sym h.found }

-- an owner behind a turn
pub turned_kind : (s : State) (o : ℕ) (currents : List (Option ℕ)) (x : Session) (outs : List Out) (end : Option ℕ) → (turned_owner s o currents x outs end).kind ≡ (owner_at s o).kind
turned_kind s o currents x outs None = refl
turned_kind s o currents x outs (Some time) = refl

turned_copy : (s : State) (o : ℕ) (currents : List (Option ℕ)) (x : Session) (outs : List Out) (end : Option ℕ) → (turned_owner s o currents x outs end).works.copy ≡ (owner_at s o).works.copy
turned_copy s o currents x outs None = refl
turned_copy s o currents x outs (Some time) = refl

pub turned_session : (s : State) (o : ℕ) (currents : List (Option ℕ)) (x : Session) (outs : List Out) (end : Option ℕ) → (turned_owner s o currents x outs end).session ≡ x
turned_session s o currents x outs None = refl
turned_session s o currents x outs (Some time) = refl

-- a transaction takes a turn, and stays the same
framed_txn : (c : Config) (s t : State) (o : ℕ) (anew : Bool) (currents : List (Option ℕ)) (x y : TxnSession) (outs : List Out) (end : Option ℕ) → (owner_at s o).session ≡ session.Transaction x → Turns s t o anew currents (session.Transaction y) outs end → SameTxn x y → x.k ≤ y.k → AllFramed c s → AllFramed c t
framed_txn c s t o anew currents x y outs end u turns same k h = framed_one c s t o _ turns.same.shards turns.owned (turned_kind s o _ _ outs end)
    (λ z e. subst (TxnFramed c t o) (txn_is y z (sym (turned_session s o _ _ outs end) ∙ e)) framed)
    (λ z e. txn_or_snap _ y z (turned_session s o _ _ outs end) e)
    (λ a shards e. txn_or_settling _ y a shards (turned_session s o _ _ outs end) e)
    (λ z e. subst (λ (v : Session). GoesOn z v) (sym (turned_session s o _ _ outs end)) (subst (λ (v : TxnSession). GoesOn v (session.Transaction y)) (txn_is x z (sym u ∙ e)) (same_goes x y same k)))
    h
  where
    there : owner_at t o ≡ turned_owner s o (left_to_await anew currents) (session.Transaction y) outs end
    there = one_there s t o _ turns.owned

    framed : TxnFramed c t o y
    framed = txn_later c s t o x y (ap (λ (w : Owner). w.kind) there ∙ turned_kind s o _ _ outs end) (ap (λ (w : Owner). w.works.copy) there ∙ turned_copy s o _ _ outs end) same k (h.txn o x u)

-- so does a snapshot
framed_snap : (c : Config) (s t : State) (o : ℕ) (anew : Bool) (currents : List (Option ℕ)) (x y : SnapSession) (outs : List Out) (end : Option ℕ) → (owner_at s o).session ≡ session.Snapshot x → Turns s t o anew currents (session.Snapshot y) outs end → SameSnap x y → AllFramed c s → AllFramed c t
framed_snap c s t o anew currents x y outs end u turns same h = framed_one c s t o _ turns.same.shards turns.owned (turned_kind s o _ _ outs end)
    (λ z e. txn_or_snap _ z y e (turned_session s o _ _ outs end))
    (λ z e. subst (SnapFramed c t o) (snap_is y z (sym (turned_session s o _ _ outs end) ∙ e)) framed)
    (λ a shards e. snap_or_settling _ y a shards (turned_session s o _ _ outs end) e)
    (λ z e. txn_or_snap (owner_at s o).session z x e u)
    h
  where
    there : owner_at t o ≡ turned_owner s o (left_to_await anew currents) (session.Snapshot y) outs end
    there = one_there s t o _ turns.owned

    framed : SnapFramed c t o y
    framed = snap_later c s t o x y (ap (λ (w : Owner). w.kind) there ∙ turned_kind s o _ _ outs end) (ap (λ (w : Owner). w.works.copy) there ∙ turned_copy s o _ _ outs end) same (h.snap o x u)

-- an owner that calls is not that of number 0
calls_later : (s : State) (o : ℕ) (x : Op) → NoneFirst s → (owner_at s o).kind ≡ kind.Calling x → 0 < o
calls_later s zero x h e = absurd (fences_not x (sym h.none ∙ e))
  where
    fences_not : (x : Op) → kind.Fencing ≡ kind.Calling x → ⊥
    fences_not x e = cc
calls_later s (suc o) x h e = omega arith

-- a transaction begins
framed_begins : (c : Config) (s t : State) (o : ℕ) (reads : List Key) (guard : Option (Compare ℕ)) (writes : List (Key × Expr ℕ)) (x : TxnSession) (outs : List Out) → NoneFirst s → (owner_at s o).kind ≡ kind.Calling (op.Txn reads guard writes)
    → x ≡ opening_txn (home_of c) o reads guard writes (least_for s o (service_of (op.Txn reads guard writes))) (body_of c (owner_at s o).stage).earliest_end
    → Launches s t o (session.Transaction x) outs → AllFramed c s → AllFramed c t
framed_begins c s t o reads guard writes x outs none k d l h = framed_one c s t o _ l.same.shards l.owned refl
    (λ z e. subst (TxnFramed c t o) (txn_is x z e) (subst (TxnFramed c t o) (sym d) framed))
    (λ z e. txn_or_snap _ x z refl e)
    (λ a shards e. txn_or_settling _ x a shards refl e)
    (λ z e. idle_or_txn (owner_at s o).session z l.idle e)
    h
  where
    there : (owner_at t o).kind ≡ kind.Calling (op.Txn reads guard writes)
    there = ap (λ (w : Owner). w.kind) (one_there s t o _ l.owned) ∙ k

    named : OpNamed c (op.Txn reads guard writes)
    named = h.ops o (op.Txn reads guard writes) k

    framed : TxnFramed c t o (opening_txn (home_of c) o reads guard writes (least_for s o (service_of (op.Txn reads guard writes))) (body_of c (owner_at s o).stage).earliest_end)
    framed = record {
      numbered = calls_later s o (op.Txn reads guard writes) none k;
      of_kind = there;
      call = refl;
      attempts = omega arith;
      frames = record { frames = refl };
      lines = lines_of_fit c reads (written_keys writes) named.keys named.some;
      least = ap (λ (w : Owner). least_of w.works.copy.least (service_of (op.Txn reads guard writes))) (sym (one_there s t o _ l.owned));
    }

-- a snapshot begins
framed_begins_snap : (c : Config) (at : Reading) (s t : State) (o : ℕ) (keys : List Key) (x : SnapSession) (outs : List Out) → NoneFirst s → (owner_at s o).kind ≡ kind.Calling (op.Snap keys)
    → x ≡ opening_snapshot (home_of c) o keys (least_for s o (service_of (op.Snap keys))) at
    → Launches s t o (session.Snapshot x) outs → AllFramed c s → AllFramed c t
framed_begins_snap c at s t o keys x outs none k d l h = framed_one c s t o _ l.same.shards l.owned refl
    (λ z e. txn_or_snap _ z x e refl)
    (λ z e. subst (SnapFramed c t o) (snap_is x z e) (subst (SnapFramed c t o) (sym d) framed))
    (λ a shards e. snap_or_settling _ x a shards refl e)
    (λ z e. idle_or_txn (owner_at s o).session z l.idle e)
    h
  where
    there : (owner_at t o).kind ≡ kind.Calling (op.Snap keys)
    there = ap (λ (w : Owner). w.kind) (one_there s t o _ l.owned) ∙ k

    named : OpNamed c (op.Snap keys)
    named = h.ops o (op.Snap keys) k

    behind : (xs : List Key) → xs ≡ xs ++ []
    behind [] = refl
    behind (key ∷ xs) = ap (λ (ys : List Key). key ∷ ys) (behind xs)

    framed : SnapFramed c t o (opening_snapshot (home_of c) o keys (least_for s o (service_of (op.Snap keys))) at)
    framed = record {
      numbered = calls_later s o (op.Snap keys) none k;
      of_kind = there;
      call = refl;
      frames = record { frames = refl };
      lines = lines_of_fit c keys [] (subst (All (IsKey c)) (behind keys) named.keys) (ap is_some_key (sym (behind keys)) ∙ named.some);
      least = ap (λ (w : Owner). least_of w.works.copy.least (service_of (op.Snap keys))) (sym (one_there s t o _ l.owned));
    }

-- the request of a current exchange is sent once more
framed_again : (c : Config) (s t : State) (o slot : ℕ) (target : Target) (r : Request) → SendsAgain s t o slot target r → AllFramed c s → AllFramed c t
framed_again c s t o slot target r a h = framed_one c s t o _ a.same.shards a.owned refl
    (λ x e. txn_later c s t o x x (ap (λ (w : Owner). w.kind) there) (ap (λ (w : Owner). w.works.copy) there) (same_txn x) (omega arith) (h.txn o x e))
    (λ x e. snap_later c s t o x x (ap (λ (w : Owner). w.kind) there) (ap (λ (w : Owner). w.works.copy) there) (same_snap x) (h.snap o x e))
    (λ b shards e. h.settles o b shards e)
    (λ x e. txn_stays x (owner_at s o).session e)
    h
  where
    there : owner_at t o ≡ record (owner_at s o) { currents = set (owner_at s o).currents slot (Some (length s.net)) }
    there = one_there s t o _ a.owned

-- a stub goes on
framed_asks : (c : Config) (s t : State) (o : ℕ) (a : Attempt) (shards : List ℕ) (outs : List Out) → (owner_at s o).kind ≡ kind.Stubbing (Some (a, shards)) → (owner_at s o).session ≡ session.Idle → SettlesTo s t o (session.Settling a shards) outs → AllFramed c s → AllFramed c t
framed_asks c s t o a shards outs k i l h = framed_one c s t o l.owner l.same.shards l.owned l.kind
    (λ x e. txn_or_settling l.owner.session x a shards e l.session)
    (λ x e. snap_or_settling l.owner.session x a shards e l.session)
    (λ b others e. k ∙ ap (λ (left : Attempt × List ℕ). kind.Stubbing (Some left)) (one_settling l.owner.session a b shards others l.session e))
    (λ x e. idle_or_txn (owner_at s o).session x i e)
    h

framed_tells : (c : Config) (s t : State) (o : ℕ) (a : Attempt) (shards : List ℕ) (outs : List Out) → (owner_at s o).session ≡ session.Settling a shards → SettlesTo s t o session.Idle outs → AllFramed c s → AllFramed c t
framed_tells c s t o a shards outs u l h = framed_one c s t o l.owner l.same.shards l.owned l.kind
    (λ x e. idle_or_txn l.owner.session x l.session e)
    (λ x e. idle_or_snap l.owner.session x l.session e)
    (λ b others e. idle_or_settling l.owner.session b others l.session e)
    (λ x e. txn_or_settling (owner_at s o).session x a shards e u)
    h

-- each event
pub framed_keeps : (c : Config) (at : Reading) (s t : State) → NamesKeys c → Known at s → NoneFirst s → AnswersHeard s → Event c at s t → AllFramed c s → AllFramed c t
framed_keeps c at s t names known none heard (aside a) h = framed_aside c s t names a h
framed_keeps c at s t names known none heard (begins_txn o reads guard writes x k d l) h = framed_begins c s t o reads guard writes x _ none k d l h
framed_keeps c at s t names known none heard (begins_snapshot o keys x k d l) h = framed_begins_snap c at s t o keys x _ none k d l h
framed_keeps c at s t names known none heard (txn_hears_one o slot x r u r' turns) h =
    let l = heard.txn o slot x r u r' in
    let awaited : txn_awaits x x.phase (line_at x.lines (slot_shard slot)) ≡ Some (l.target, l.asked) = ap (txn_awaits x x.phase) l.found ∙ l.awaited in
    let turn : TxnTurn x (line_at x.lines (slot_shard slot)) at r (txn_hears x (line_at x.lines (slot_shard slot)) at r) = txn_case x (line_at x.lines (slot_shard slot)) at l.target l.asked r awaited l.fits in
    framed_txn c s t o _ _ x _ _ _ u turns (txn_turn_same (home_of c) x (line_at x.lines (slot_shard slot)) at r _ (h.txn o x u).frames (heard_line s slot x.lines (txn_awaits x x.phase) r l) turn)
    (turn_attempt x (line_at x.lines (slot_shard slot)) at r _ turn) h
framed_keeps c at s t names known none heard (snap_hears_one o slot x r u r' turns) h =
    let l = heard.snap o slot x r u r' in
    let awaited : snap_awaits x x.phase (line_at x.lines (slot_shard slot)) ≡ Some (l.target, l.asked) = ap (snap_awaits x x.phase) l.found ∙ l.awaited in
    let turn : SnapTurn x (line_at x.lines (slot_shard slot)) r (snap_hears x (line_at x.lines (slot_shard slot)) r) = snap_case x (line_at x.lines (slot_shard slot)) l.target l.asked r awaited l.fits in
    framed_snap c s t o _ _ x _ _ _ u turns (snap_turn_same (home_of c) x (line_at x.lines (slot_shard slot)) r _ (h.snap o x u).frames (heard_line s slot x.lines (snap_awaits x x.phase) r l) turn) h
framed_keeps c at s t names known none heard (txn_wakes_one o x l u w turns) h =
    framed_txn c s t o _ _ x _ _ _ u turns (txn_wake_same (home_of c) x l (h.txn o x u).frames (waking_is s x.lines l w).0) (omega arith) h
framed_keeps c at s t names known none heard (snap_wakes_one o x l u w turns) h =
    framed_snap c s t o _ _ x _ _ _ u turns (snap_wake_same (home_of c) x l (h.snap o x u).frames (waking_is s x.lines l w).0) h
framed_keeps c at s t names known none heard (txn_passes_time o time x u w p turns) h =
    framed_txn c s t o _ _ x _ _ _ u turns (txn_pass_same x) (pass_attempt x x.phase) h
framed_keeps c at s t names known none heard (sends_again o slot target r a) h = framed_again c s t o slot target r a h
framed_keeps c at s t names known none heard (serves_one m shard q w d) h =
    framed_stays c s t (ap (λ (v : State). length v.shards) d ∙ length-set s.shards (shard - 1) (shard_after (shard_at s shard) at.latest q)) (ap (λ (v : State). v.owners) d) h
framed_keeps c at s t names known none heard (stub_asks o a shards k f i l) h = framed_asks c s t o a shards _ k i l h
framed_keeps c at s t names known none heard (stub_tells o slot a shards outcome u r l) h = framed_tells c s t o a shards _ u l h
