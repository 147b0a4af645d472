-- What transactions and snapshots send in their turns is just.
use Rattle.std.proofs.Common.{◌≡◌, ℕ, false, not, List, [], ◌∷◌, All, map, filter, refl, sym}
use Rattle.std.specs.Prelude.{◌==◌, nat_lt, if◌then◌else◌}
use Rattle.std.proofs.lemmas.Bool.{cond_both}
use Rattle.std.proofs.lemmas.List.Elements.{All-cons, All-nil, All-append, All-filter}
use Rattle.truetime.specs.Reading.{Reading}
use Rattle.pipeline_lang.specs.declared.config.Config.{Config}
use Rattle.rss_wire.specs.declared.messages.Holder.{Holder}
use Rattle.rss_wire.specs.declared.messages.Outcome.{Outcome}
use Rattle.rss_wire.specs.declared.messages.Outcome.TheVariants.{Committed, Aborted}
use Rattle.rss_wire.specs.declared.messages.Reply.{Reply}
use Rattle.rss_wire.specs.declared.messages.Reply.TheVariants as reply
use Rattle.rss_wire.specs.declared.messages.Request.{Request}
use Rattle.rss_tables.specs.Lines.{Line, line_at, in_state, coordinator_of, shards_of, inquiry, decision_request, only_awaiting, woken_outs}
use Rattle.rss_tables.specs.Outs.{line_out}
use Rattle.rss_tables.specs.SnapshotSession.{SnapSession, snap_asks, snap_request, second_round, snapshot_time, must_ask_again, asked_again}
use Rattle.rss_tables.specs.TransactionSession.{TxnSession, attempt_of, leads, txn_request, asks_lines, goes_to_prepare, goes_to_free, goes_to_free_last, is_prepared, is_wounded, is_decided, is_committed, wait_of, txn_passes}
use Rattle.rss_tables.specs.Turns.{Turn, quiet}
use Rattle.rss_tables.specs.declared.lines.LineState.{LineState}
use Rattle.rss_tables.specs.declared.lines.LineState.TheVariants.{Awaiting, Answered, Inquiring, Resolving, Asleep, Dropped}
use Rattle.rss_tables.specs.declared.phases.TxnPhase.{TxnPhase}
use Rattle.rss_tables.specs.declared.phases.TxnPhase.TheVariants as phase
use Rattle.rss_machine.specs.State.{State, owner_at}
use Rattle.rss_machine.specs.declared.session.Session.TheVariants as session
use Rattle.session_laws.specs.Cases.{answered, shown_line, timed_line, other_lines, TxnTurn, granted, prepares, frees, prepared, decides, released, frees_last, fails, wounded, commits, waits, aborts, undone, blocked, resolves, sleeps, asks}
use Rattle.session_laws.specs.Frames.{IsLine, frame_of, frames_of}
use Rattle.session_laws.specs.SnapCases as snap
use Rattle.session_laws.proofs.Frames.{map_frames}
use Rattle.txn_state_laws.specs.Framed.{AllFramed}
use Rattle.txn_state_laws.specs.Justified.{IsJust, Kept}
use Rattle.txn_state_laws.specs.Told.{AllTold}
use Rattle.txn_decision_laws.proofs.Asked.{asks_leader, OutJust, out_just, each_line, copies, lines_just, leader_just, snap_lines_just, decision_just, decisions_just}
use Rattle.txn_state_laws.proofs.Grows.{coordinator_same}

-- lines in other states have the same frames
only_same : (shard : ℕ) (lines : List Line) → frames_of (only_awaiting shard lines) ≡ frames_of lines
only_same shard lines = map_frames (λ (l : Line). record l { state = if l.shard == shard then Awaiting else Dropped }) (λ l. refl) lines

others_same : (u : TxnSession) (lines : List Line) → frames_of (map (λ (m : Line). if leads u m then m else in_state m Awaiting) lines) ≡ frames_of lines
others_same u lines = map_frames (λ (m : Line). if leads u m then m else in_state m Awaiting)
    (λ l. cond_both (leads u l) l (in_state l Awaiting) (λ (m : Line). frame_of m ≡ frame_of l) (λ e. refl) (λ e. refl)) lines

again_same : (time : ℕ) (lines : List Line) → frames_of (asked_again time lines) ≡ frames_of lines
again_same time lines = map_frames (λ (l : Line). if must_ask_again time l then in_state l Awaiting else l)
    (λ l. cond_both (must_ask_again time l) (in_state l Awaiting) l (λ (m : Line). frame_of m ≡ frame_of l) (λ e. refl) (λ e. refl)) lines

-- a question to a coordinator is always just
inquiry_just : (t : State) (o shard : ℕ) (holder : Holder) → All (OutJust t o) (inquiry shard holder ∷ [])
inquiry_just t o shard holder = All-cons (OutJust t o) (inquiry shard holder) [] (λ n e. tt) (All-nil (OutJust t o))

pub one_just : (t : State) (o shard : ℕ) (q : Request) → IsJust t o shard q → All (OutJust t o) (line_out shard q ∷ [])
one_just t o shard q h = All-cons (OutJust t o) (line_out shard q) [] (out_just t o shard q h) (All-nil (OutJust t o))

-- what a transaction relies on where one of its lines hears a reply
pub record Reasons (t : State) (o : ℕ) (x : TxnSession) (l : Line) (r : Reply) : Type 0 where
  pub decided : (outcome : Outcome) → r ≡ reply.Decided outcome → Kept t (attempt_of x) outcome
  pub told : (holder : Holder) (outcome : Outcome) → r ≡ reply.Outcome outcome → l.state ≡ Inquiring holder → Kept t holder.attempt outcome
  pub again : (holder : Holder) (outcome : Outcome) → l.state ≡ Resolving holder outcome → IsJust t o l.shard (txn_request x x.phase l)

module _ (c : Config) (t : State) (f : AllFramed c t) (k : AllTold t) (o : ℕ) where
  -- all lines of a session are asked
  pub all_just : (y : TxnSession) → (owner_at t o).session ≡ session.Transaction y → asks_leader y.phase ≡ false → All (OutJust t o) (asks_lines y y.lines)
  all_just y e n = lines_just c t o y (f.txn o y e) e (k.knows o y e) y.lines n (copies y.lines y.lines refl y.lines (each_line y.lines))

  -- or the coordinator's
  only_just : (u y : TxnSession) → (owner_at t o).session ≡ session.Transaction y → frames_of y.lines ≡ frames_of u.lines → All (OutJust t o) (asks_lines y (line_at y.lines (coordinator_of u.lines) ∷ []))
  only_just u y e g = leader_just c t o y (f.txn o y e) e (k.knows o y e) (coordinator_of u.lines) (coordinator_same u.lines y.lines (sym g))

  -- or all others
  free_just : (u : TxnSession) (time : ℕ) (others : List Line) → All (IsLine u.lines) others → (owner_at t o).session ≡ session.Transaction (goes_to_free u time others).after → All (OutJust t o) (goes_to_free u time others).outs
  free_just u time [] h e = only_just u (goes_to_free u time []).after e (only_same (coordinator_of u.lines) u.lines)
  free_just u time (l ∷ others) h e =
      let y : TxnSession = (goes_to_free u time (l ∷ others)).after in
      lines_just c t o y (f.txn o y e) e (k.knows o y e) (l ∷ others) refl (copies u.lines y.lines (others_same u u.lines) (l ∷ others) h)

  -- a commit is told to all
  pub committed_just : (x : TxnSession) (time : ℕ) → Kept t (attempt_of x) (Committed time) → All (OutJust t o) (is_committed x time).outs
  committed_just x time h = decisions_just t o (attempt_of x) (Committed time) (shards_of x.lines) h

  decided_just : (x : TxnSession) (at : Reading) (time : ℕ) → Kept t (attempt_of x) (Committed time) → All (OutJust t o) (is_decided x at (Committed time)).outs
  decided_just x at time h = cond_both (nat_lt (wait_of x time) at.earliest) (is_committed x time) (quiet (record x { phase = phase.Waiting time })) (λ (u : Turn TxnSession). All (OutJust t o) u.outs)
      (λ e. committed_just x time h) (λ e. All-nil (OutJust t o))

  aborted_just : (x : TxnSession) (at : Reading) → Kept t (attempt_of x) Aborted → (owner_at t o).session ≡ session.Transaction (is_decided x at Aborted).after → All (OutJust t o) (is_decided x at Aborted).outs
  aborted_just x at h e =
      let y : TxnSession = (is_decided x at Aborted).after in
      All-append (OutJust t o) _ (asks_lines y y.lines) (decisions_just t o (attempt_of x) Aborted (shards_of x.lines) h) (all_just y e refl)

  -- whatever a line hears
  pub turn_just : (x : TxnSession) (l : Line) (at : Reading) (r : Reply) (turn : Turn TxnSession) → Reasons t o x l r → (owner_at t o).session ≡ session.Transaction turn.after → TxnTurn x l at r turn → All (OutJust t o) turn.outs
  turn_just x l at _ _ h e (granted shown p s n) = All-nil (OutJust t o)
  turn_just x l at _ _ h e (prepares shown p s n g) = all_just (goes_to_prepare (answered x (shown_line l shown)) at).after e refl
  turn_just x l at _ _ h e (frees shown p s n g) = let u : TxnSession = answered x (shown_line l shown) in
      free_just (answered x (shown_line l shown)) _ (other_lines u) (All-filter (λ (m : Line). not (leads u m)) (IsLine u.lines) u.lines (each_line u.lines)) e
  turn_just x l at _ _ h e (prepared time p s n) = All-nil (OutJust t o)
  turn_just x l at _ _ h e (decides time p s n) = let u : TxnSession = answered x (timed_line l time) in
      only_just u (is_prepared u).after e (only_same (coordinator_of u.lines) u.lines)
  turn_just x l at _ _ h e (released time p s n) = All-nil (OutJust t o)
  turn_just x l at _ _ h e (frees_last time p s n) = let u : TxnSession = answered x l in
      only_just u (goes_to_free_last u time).after e (only_same (coordinator_of u.lines) u.lines)
  turn_just x l at _ _ h e (fails time p s) = All-nil (OutJust t o)
  turn_just x l at _ _ h e (wounded p s) = only_just x (is_wounded x).after e (only_same (coordinator_of x.lines) x.lines)
  turn_just x l at _ _ h e (commits d time p s n) = committed_just x time (h.decided (Committed time) refl)
  turn_just x l at _ _ h e (waits d time p s n) = All-nil (OutJust t o)
  turn_just x l at _ _ h e (aborts p s) = aborted_just x at (h.decided Aborted refl) e
  turn_just x l at _ _ h e (undone time p s) = decided_just x at time (h.decided (Committed time) refl)
  turn_just x l at _ _ h e (blocked holder holders p s) = inquiry_just t o l.shard holder
  turn_just x l at _ _ h e (resolves holder outcome s) = one_just t o l.shard (decision_request holder.attempt outcome) (decision_just t o l.shard holder.attempt outcome (h.told holder outcome refl s))
  turn_just x l at _ _ h e (sleeps holder s) = All-nil (OutJust t o)
  turn_just x l at _ _ h e (asks holder outcome s) = one_just t o l.shard (txn_request x x.phase l) (h.again holder outcome s)

  -- a time passes
  pub pass_just : (x : TxnSession) (p : TxnPhase) → ((time : ℕ) → p ≡ phase.Waiting time → Kept t (attempt_of x) (Committed time)) → All (OutJust t o) (txn_passes x p).outs
  pass_just x (phase.Waiting time) h = committed_just x time (h time refl)
  pass_just x phase.Locking h = All-nil (OutJust t o)
  pass_just x phase.Preparing h = All-nil (OutJust t o)
  pass_just x (phase.Freeing time) h = All-nil (OutJust t o)
  pass_just x (phase.FreeingLast time) h = All-nil (OutJust t o)
  pass_just x (phase.Deciding time) h = All-nil (OutJust t o)
  pass_just x phase.Undoing h = All-nil (OutJust t o)
  pass_just x (phase.Committed time) h = All-nil (OutJust t o)
  pass_just x (phase.Failed time) h = All-nil (OutJust t o)

-- a line wakes
pub wake_just : (t : State) (o shard : ℕ) (z : LineState) → All (OutJust t o) (woken_outs shard z)
wake_just t o shard (Asleep holder) = inquiry_just t o shard holder
wake_just t o shard Awaiting = All-nil (OutJust t o)
wake_just t o shard Answered = All-nil (OutJust t o)
wake_just t o shard (Inquiring holder) = All-nil (OutJust t o)
wake_just t o shard (Resolving holder outcome) = All-nil (OutJust t o)
wake_just t o shard Dropped = All-nil (OutJust t o)

-- what a snapshot relies on where one of its lines hears a reply
pub record SnapReasons (t : State) (o : ℕ) (x : SnapSession) (l : Line) (r : Reply) : Type 0 where
  pub told : (holder : Holder) (outcome : Outcome) → r ≡ reply.Outcome outcome → l.state ≡ Inquiring holder → Kept t holder.attempt outcome
  pub again : (holder : Holder) (outcome : Outcome) → l.state ≡ Resolving holder outcome → IsJust t o l.shard (snap_request x x.phase l)

-- all lines of a snapshot are asked
pub snap_all_just : (t : State) (o : ℕ) (y : SnapSession) → (owner_at t o).session ≡ session.Snapshot y → All (OutJust t o) (snap_asks y y.lines)
snap_all_just t o y e = snap_lines_just t o y e y.lines (copies y.lines y.lines refl y.lines (each_line y.lines))

round_just : (t : State) (o : ℕ) (u : SnapSession) (time : ℕ) (again : List Line) → All (IsLine u.lines) again → (owner_at t o).session ≡ session.Snapshot (second_round u time again).after → All (OutJust t o) (second_round u time again).outs
round_just t o u time [] h e = All-nil (OutJust t o)
round_just t o u time (l ∷ again) h e =
    let y : SnapSession = (second_round u time (l ∷ again)).after in
    snap_lines_just t o y e (l ∷ again) (copies u.lines y.lines (again_same time u.lines) (l ∷ again) h)

pub snap_turn_just : (t : State) (o : ℕ) (x : SnapSession) (l : Line) (r : Reply) (turn : Turn SnapSession) → SnapReasons t o x l r → (owner_at t o).session ≡ session.Snapshot turn.after → snap.SnapTurn x l r turn → All (OutJust t o) turn.outs
snap_turn_just t o x l _ _ h e (snap.shown versions skipped s n) = All-nil (OutJust t o)
snap_turn_just t o x l _ _ h e (snap.first_done read_time versions skipped p s n) = let u : SnapSession = snap.snap_answered x (snap.told_line l versions skipped) in
    round_just t o u (snapshot_time u) (filter (must_ask_again (snapshot_time u)) u.lines) (All-filter (must_ask_again (snapshot_time u)) (IsLine u.lines) u.lines (each_line u.lines)) e
snap_turn_just t o x l _ _ h e (snap.second_done time versions skipped p s n) = All-nil (OutJust t o)
snap_turn_just t o x l _ _ h e (snap.blocked holder holders s) = inquiry_just t o l.shard holder
snap_turn_just t o x l _ _ h e (snap.resolves holder outcome s) = one_just t o l.shard (decision_request holder.attempt outcome) (decision_just t o l.shard holder.attempt outcome (h.told holder outcome refl s))
snap_turn_just t o x l _ _ h e (snap.sleeps holder s) = All-nil (OutJust t o)
snap_turn_just t o x l _ _ h e (snap.asks holder outcome s) = one_just t o l.shard (snap_request x x.phase l) (h.again holder outcome s)
