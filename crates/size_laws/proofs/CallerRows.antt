-- Shards, and sessions under way with them, name attempts of calls alone.
use Rattle.std.proofs.Common.{ℕ, zero, suc, ◌+◌, ◌≤◌, ◌==◌, Bool, true, false, not, ◌||◌, List, [], ◌∷◌, ◌++◌, length, get_or, map, filter, Option, Some, None, All}
use Rattle.std.specs.Prelude.{◌&&◌, max, is_some, nat_lt, if◌then◌else◌}
use Rattle.std.proofs.lemmas.Bool.{cond_both}
use Rattle.std.proofs.lemmas.List.Elements.{All-cons, All-nil, All-head, All-tail, All-filter, All-map, All-weaker, All-append}
use Rattle.truetime.specs.Reading.{Reading}
use Rattle.rss_names.specs.declared.attempt.Attempt.{Attempt}
use Rattle.rss_names.specs.declared.service.Key.{Key}
use Rattle.pipeline_lang.specs.declared.script.Compare.{Compare}
use Rattle.pipeline_lang.specs.declared.script.Expr.{Expr}
use Rattle.rss_wire.specs.declared.messages.Holder.{Holder}
use Rattle.rss_wire.specs.declared.messages.Outcome.{Outcome}
use Rattle.rss_wire.specs.declared.messages.Outcome.TheVariants.{Committed, Aborted}
use Rattle.rss_wire.specs.declared.messages.RegReply.{RegReply}
use Rattle.rss_wire.specs.declared.messages.Reply.{Reply}
use Rattle.rss_wire.specs.declared.messages.Reply.TheVariants as reply
use Rattle.rss_wire.specs.declared.messages.Request.{Request}
use Rattle.rss_wire.specs.declared.messages.Request.TheVariants.{Lock, Prepare, Decide, Commit, Abort, Inquire, Release, Snapshot, Fix, Ask, Stamp, Store}
use Rattle.rss_tables.specs.Attempts.{same_attempt, has_attempt, attempt_lt}
use Rattle.rss_tables.specs.Lines.{Line, line_at, with_line, all_awaiting, only_awaiting, in_state, coordinator_of, shards_of, tells_decision, decision_request, inquiry, blocked_state, blocked_outs, resolving_state, resolving_outs, sleeping_state, woken_state, woken_outs, all_answered, keys_on, lines_from, lines_of, opening_line}
use Rattle.rss_tables.specs.Locks.{LockHolder, Locks, holds, is_tombstoned, coordinator_in, after_lock, after_wounds, taken, is_wounded_by, in_way_of, conflicts, with_holder, named_holders}
use Rattle.rss_tables.specs.Outs.{Out, told, line_out}
use Rattle.rss_tables.specs.Prepared.{PreparedWriter, prepared_of, prepared_attempts, with_prepared, is_asked_about, must_wait_for, blocking, passed_by, named_blocking, named_skipped}
use Rattle.rss_tables.specs.ReplicaRow.{replica_reply}
use Rattle.rss_tables.specs.ShardRow.{Shard, shard_after, shard_reply, prepares, prepare_time, keeps_decision, asked_outcome, commits, tombstones, can_release, releases, releases_last, is_clear, lock_reply, prepare_reply, decide_reply, inquire_reply, decision_in}
use Rattle.rss_tables.specs.SnapshotSession.{SnapSession, opening_snapshot, snap_starts, snap_request, snap_asks, snap_phase_ends, second_round, snapshot_time, must_ask_again, asked_again, snap_told, snap_line_goes, snap_hears, snap_wakes}
use Rattle.rss_tables.specs.TransactionSession.{TxnSession, opening_txn, txn_starts, attempt_of, txn_request, asks_lines, begins_phase, goes_to_prepare, goes_to_free, failing_time, greatest_prepared, is_locked, phase_ends, is_phase_done, is_told, line_goes, is_committed, is_decided, txn_hears, txn_wakes, txn_passes, guard_of, values_shown, leads, wait_of, written_keys}
use Rattle.rss_tables.specs.Turns.{Turn, quiet}
use Rattle.rss_tables.specs.Versions.{versions_at, newest_of}
use Rattle.rss_tables.specs.declared.lines.LineState.{LineState}
use Rattle.rss_tables.specs.declared.lines.LineState.TheVariants.{Awaiting, Answered, Inquiring, Resolving, Asleep, Dropped}
use Rattle.rss_tables.specs.declared.phases.SnapPhase.{SnapPhase}
use Rattle.rss_tables.specs.declared.phases.SnapPhase.TheVariants as snap
use Rattle.rss_tables.specs.declared.phases.TxnPhase.{TxnPhase}
use Rattle.rss_tables.specs.declared.phases.TxnPhase.TheVariants as phase
use Rattle.size_laws.specs.Callers.{OfCall, LocksCall, PreparesCall, ShardCalls, RequestCalls, ReplyCalls, StateCalls, LineCalls, TxnCalls}

-- SHARDS

locks_with : (holders : List LockHolder) (new : LockHolder) → LocksCall new → All LocksCall holders → All LocksCall (with_holder holders new)
locks_with [] new i h = All-cons LocksCall new [] i h
locks_with (x ∷ holders) new i h = cond_both (attempt_lt new.attempt x.attempt) (new ∷ x ∷ holders) (x ∷ with_holder holders new) (All LocksCall) (λ e. All-cons LocksCall new (x ∷ holders) i h) (λ e. All-cons LocksCall x (with_holder holders new) (All-head LocksCall x holders h) (locks_with holders new i (All-tail LocksCall x holders h)))

prepared_with : (prepared : List PreparedWriter) (new : PreparedWriter) → PreparesCall new → All PreparesCall prepared → All PreparesCall (with_prepared prepared new)
prepared_with [] new i h = All-cons PreparesCall new [] i h
prepared_with (x ∷ prepared) new i h = cond_both (attempt_lt new.attempt x.attempt) (new ∷ x ∷ prepared) (x ∷ with_prepared prepared new) (All PreparesCall) (λ e. All-cons PreparesCall new (x ∷ prepared) i h) (λ e. All-cons PreparesCall x (with_prepared prepared new) (All-head PreparesCall x prepared h) (prepared_with prepared new i (All-tail PreparesCall x prepared h)))

locks_taken : (locks : Locks) (new : LockHolder) → LocksCall new → All LocksCall locks.holders → All LocksCall (taken locks new).holders
locks_taken locks new i h = cond_both (length (in_way_of locks new.attempt new.reads new.writes) == 0) (record locks { holders = with_holder locks.holders new }) locks (λ (x : Locks). All LocksCall x.holders) (λ e. locks_with locks.holders new i h) (λ e. h)

locks_after : (locks : Locks) (prepared : List Attempt) (new : LockHolder) → LocksCall new → All LocksCall locks.holders → All LocksCall (after_lock locks prepared new).holders
locks_after locks prepared new i h =
    let u = after_wounds locks prepared new.attempt new.reads new.writes in
    cond_both (is_tombstoned locks new.attempt || holds locks new.attempt) locks (taken u new) (λ (x : Locks). All LocksCall x.holders)
    (λ e. h) (λ e. locks_taken u new i (All-filter (λ (x : LockHolder). not (is_wounded_by prepared new.attempt new.reads new.writes x)) LocksCall locks.holders h))

shard_prepares : (sh : Shard) (a : Attempt) (time earliest_end : ℕ) (writes : List (Key × ℕ)) (coordinator : Option ℕ) → 1 ≤ a.call → ShardCalls sh → ShardCalls (prepares sh a time earliest_end writes coordinator)
shard_prepares sh a time earliest_end writes None i h = h
shard_prepares sh a time earliest_end writes (Some n) i h = record { locks = h.locks; prepared = prepared_with sh.prepared (record { attempt = a; coordinator = n; prepare_time = time; earliest_end = earliest_end; writes = writes }) i h.prepared }

shard_keeps : (sh : Shard) (a : Attempt) (outcome : Outcome) → ShardCalls sh → ShardCalls (keeps_decision sh a outcome)
shard_keeps sh a outcome h = cond_both (is_some (decision_in sh.decisions a)) sh (record sh { decisions = sh.decisions ++ (a, outcome) ∷ [] }) ShardCalls (λ e. h) (λ e. record { locks = h.locks; prepared = h.prepared })

locks_less : (a : Attempt) (holders : List LockHolder) → All LocksCall holders → All LocksCall (filter (λ (x : LockHolder). not (same_attempt a x.attempt)) holders)
locks_less a holders h = All-filter (λ (x : LockHolder). not (same_attempt a x.attempt)) LocksCall holders h

prepared_less : (a : Attempt) (prepared : List PreparedWriter) → All PreparesCall prepared → All PreparesCall (filter (λ (x : PreparedWriter). not (same_attempt a x.attempt)) prepared)
prepared_less a prepared h = All-filter (λ (x : PreparedWriter). not (same_attempt a x.attempt)) PreparesCall prepared h

shard_commits : (sh : Shard) (a : Attempt) (time : ℕ) (p : Option PreparedWriter) → ShardCalls sh → ShardCalls (tombstones (commits sh a time p) a)
shard_commits sh a time None h = record { locks = h.locks; prepared = h.prepared }
shard_commits sh a time (Some p) h = record { locks = locks_less a sh.locks.holders h.locks; prepared = prepared_less a sh.prepared h.prepared }

shard_releases : (sh : Shard) (a : Attempt) (last : Bool) → ShardCalls sh → ShardCalls (releases_last sh a last)
shard_releases sh a true h = shard_keeps sh a Aborted h
shard_releases sh a false h = h

pub after_calls : (sh : Shard) (latest : ℕ) (r : Request) → RequestCalls r → ShardCalls sh → ShardCalls (shard_after sh latest r)
unfolding shard_after
after_calls sh latest (Lock a coordinator reads writes) i h = record { locks = locks_after sh.locks (prepared_attempts sh.prepared) (record { attempt = a; coordinator = coordinator; reads = reads; writes = writes }) i h.locks; prepared = h.prepared }
after_calls sh latest (Prepare a least earliest_end writes) i h =
    cond_both (is_some (prepared_of sh.prepared a)) sh (prepares sh a (prepare_time sh latest least) earliest_end writes (coordinator_in sh.locks.holders a)) ShardCalls
    (λ e. h) (λ e. shard_prepares sh a (prepare_time sh latest least) earliest_end writes (coordinator_in sh.locks.holders a) i h)
after_calls sh latest (Decide a commit time) i h = shard_keeps sh a (asked_outcome commit time latest) h
after_calls sh latest (Commit a time) i h = shard_commits sh a time (prepared_of sh.prepared a) h
after_calls sh latest (Abort a) i h = record { locks = locks_less a sh.locks.holders h.locks; prepared = prepared_less a sh.prepared h.prepared }
after_calls sh latest (Inquire a) i h = h
after_calls sh latest (Release a time last) i h =
    let u = releases sh a time in
    let g : ShardCalls u = record { locks = locks_less a sh.locks.holders h.locks; prepared = h.prepared } in
    cond_both (can_release sh a) (releases_last u a last) sh ShardCalls (λ e. shard_releases u a last g) (λ e. h)
after_calls sh latest (Snapshot read_time least keys skip) i h = cond_both (is_clear sh keys read_time least skip) (record sh { floor = max sh.floor read_time }) sh ShardCalls (λ e. record { locks = h.locks; prepared = h.prepared }) (λ e. h)
after_calls sh latest (Fix deps) i h = h
after_calls sh latest (Ask key) i h = h
after_calls sh latest (Stamp key) i h = h
after_calls sh latest (Store key value stamp writer) i h = h

-- REPLIES

named_calls : (holders : List LockHolder) → All LocksCall holders → All OfCall (named_holders holders)
named_calls holders h = All-map OfCall (λ (x : LockHolder). record { attempt = x.attempt; coordinator = x.coordinator }) holders h

blocking_calls : (prepared : List PreparedWriter) → All PreparesCall prepared → All OfCall (named_blocking prepared)
blocking_calls prepared h = All-map OfCall (λ (p : PreparedWriter). record { attempt = p.attempt; coordinator = p.coordinator }) prepared h

lock_replies : (sh : Shard) (a : Attempt) (reads writes : List Key) → ShardCalls sh → ReplyCalls (lock_reply sh a reads writes)
lock_replies sh a reads writes h =
    let other = if holds sh.locks a then reply.Granted (newest_of sh.store reads) else reply.Wait (named_holders (in_way_of sh.locks a reads writes)) in
    cond_both (is_tombstoned sh.locks a) reply.Wounded other ReplyCalls (λ e. tt)
    (λ e. cond_both (holds sh.locks a) (reply.Granted (newest_of sh.store reads)) (reply.Wait (named_holders (in_way_of sh.locks a reads writes))) ReplyCalls (λ f. tt)
    (λ f. named_calls (in_way_of sh.locks a reads writes) (All-filter (conflicts a reads writes) LocksCall sh.locks.holders h.locks)))

prepare_replies : (p : Option PreparedWriter) → ReplyCalls (prepare_reply p)
prepare_replies None = tt
prepare_replies (Some p) = tt

decide_replies : (d : Option Outcome) → ReplyCalls (decide_reply d)
decide_replies None = tt
decide_replies (Some d) = tt

inquire_replies : (d : Option Outcome) → ReplyCalls (inquire_reply d)
inquire_replies None = tt
inquire_replies (Some d) = tt

pub reply_calls : (sh : Shard) (latest : ℕ) (r : Request) → RequestCalls r → ShardCalls sh → ReplyCalls (shard_reply sh latest r)
unfolding shard_reply
reply_calls sh latest (Lock a coordinator reads writes) i h = lock_replies (shard_after sh latest (Lock a coordinator reads writes)) a reads writes (after_calls sh latest (Lock a coordinator reads writes) i h)
reply_calls sh latest (Prepare a least earliest_end writes) i h = prepare_replies (prepared_of (shard_after sh latest (Prepare a least earliest_end writes)).prepared a)
reply_calls sh latest (Decide a commit time) i h = decide_replies (decision_in (shard_after sh latest (Decide a commit time)).decisions a)
reply_calls sh latest (Commit a time) i h = tt
reply_calls sh latest (Abort a) i h = tt
reply_calls sh latest (Inquire a) i h = inquire_replies (decision_in sh.decisions a)
reply_calls sh latest (Release a time last) i h = cond_both (has_attempt (shard_after sh latest (Release a time last)).released a) reply.Released reply.Wounded ReplyCalls (λ e. tt) (λ e. tt)
reply_calls sh latest (Snapshot read_time least keys skip) i h =
    cond_both (is_clear sh keys read_time least skip) (reply.Values (versions_at sh.store keys read_time) (named_skipped (passed_by sh.prepared keys read_time least skip))) (reply.Blocked (named_blocking (blocking sh.prepared keys read_time least skip))) ReplyCalls
    (λ e. tt) (λ e. blocking_calls (blocking sh.prepared keys read_time least skip) (All-filter (λ (p : PreparedWriter). is_asked_about keys read_time p && must_wait_for read_time least skip p) PreparesCall sh.prepared h.prepared))
reply_calls sh latest (Fix deps) i h = tt
reply_calls sh latest (Ask key) i h = tt
reply_calls sh latest (Stamp key) i h = tt
reply_calls sh latest (Store key value stamp writer) i h = tt

pub replica_calls : (cells : List RegReply) (r : Request) → ReplyCalls (replica_reply cells r)
unfolding replica_reply
replica_calls cells (Fix deps) = tt
replica_calls cells (Ask key) = tt
replica_calls cells (Stamp key) = tt
replica_calls cells (Store key value stamp writer) = tt
replica_calls cells (Lock a coordinator reads writes) = tt
replica_calls cells (Prepare a least earliest_end writes) = tt
replica_calls cells (Decide a commit time) = tt
replica_calls cells (Commit a time) = tt
replica_calls cells (Abort a) = tt
replica_calls cells (Inquire a) = tt
replica_calls cells (Release a time last) = tt
replica_calls cells (Snapshot read_time least keys skip) = tt

-- LINES

abbrev pub OutCalls : Out → Type 0
OutCalls out = RequestCalls out.request

lines_map : (f : Line → Line) → ((l : Line) → LineCalls l → LineCalls (f l)) → (lines : List Line) → All LineCalls lines → All LineCalls (map f lines)
lines_map f k lines h = All-map LineCalls f lines (All-weaker LineCalls (λ (l : Line). LineCalls (f l)) k lines h)

one_state : (x : Bool) → StateCalls (if x then Awaiting else Dropped)
one_state true = tt
one_state false = tt

only_calls : (n : ℕ) (lines : List Line) → All LineCalls lines → All LineCalls (only_awaiting n lines)
only_calls n lines h = lines_map (λ (l : Line). record l { state = if l.shard == n then Awaiting else Dropped }) (λ l g. one_state (l.shard == n)) lines h

with_calls : (lines : List Line) (new : Line) → LineCalls new → All LineCalls lines → All LineCalls (with_line lines new)
with_calls lines new i h = lines_map (λ (l : Line). if l.shard == new.shard then new else l) (λ l g. cond_both (l.shard == new.shard) new l LineCalls (λ e. i) (λ e. g)) lines h

begun_from : (home : ℕ → ℕ) (reads writes : List Key) (shard left : ℕ) → All LineCalls (lines_from home reads writes shard left)
begun_from home reads writes shard zero = All-nil LineCalls
begun_from home reads writes shard (suc left) =
    let rest = lines_from home reads writes (shard + 1) left in
    let r = keys_on home shard reads in
    let w = keys_on home shard writes in
    let k = begun_from home reads writes (shard + 1) left in
    cond_both (length r + length w == 0) rest (opening_line shard r w ∷ rest) (All LineCalls) (λ e. k) (λ e. All-cons LineCalls (opening_line shard r w) rest tt k)

pub line_calls : (lines : List Line) (shard : ℕ) → All LineCalls lines → LineCalls (line_at lines shard)
line_calls [] shard h = tt
line_calls (l ∷ lines) shard h = cond_both (l.shard == shard) l (line_at lines shard) LineCalls (λ e. All-head LineCalls l lines h) (λ e. line_calls lines shard (All-tail LineCalls l lines h))

-- REQUESTS

request_calls : (t : TxnSession) (x : TxnPhase) (l : Line) → 1 ≤ t.call → RequestCalls (txn_request t x l)
request_calls t phase.Locking l h = h
request_calls t phase.Preparing l h = h
request_calls t (phase.Freeing time) l h = tt
request_calls t (phase.FreeingLast time) l h = tt
request_calls t (phase.Deciding time) l h = tt
request_calls t phase.Undoing l h = tt
request_calls t (phase.Waiting time) l h = tt
request_calls t (phase.Committed time) l h = tt
request_calls t (phase.Failed time) l h = tt

asks_calls : (t : TxnSession) (asked : List Line) → 1 ≤ t.call → All OutCalls (asks_lines t asked)
asks_calls t asked h = All-map OutCalls (λ (l : Line). line_out l.shard (txn_request t t.phase l)) asked (λ k d lt. request_calls t t.phase (get_or asked k d) h)

decision_calls : (a : Attempt) (outcome : Outcome) → RequestCalls (decision_request a outcome)
decision_calls a (Committed time) = tt
decision_calls a Aborted = tt

pub tells_calls : (a : Attempt) (outcome : Outcome) (shards : List ℕ) → All OutCalls (tells_decision a outcome shards)
tells_calls a outcome shards = All-map OutCalls (λ (shard : ℕ). told shard (decision_request a outcome)) shards (λ k d lt. decision_calls a outcome)

-- TRANSACTIONS

pub record TxnTurns (turn : Turn TxnSession) : Type 0 where
  pub after : TxnCalls turn.after
  pub outs : All OutCalls turn.outs

txn_quiet : (t : TxnSession) → TxnCalls t → TxnTurns (quiet t)
txn_quiet t h = record { after = h; outs = All-nil OutCalls }

txn_begins : (t : TxnSession) (asked : List Line) → TxnCalls t → TxnTurns (begins_phase t asked)
txn_begins t asked h = record { after = h; outs = asks_calls t asked h.call }

txn_alone : (t : TxnSession) (x : TxnPhase) → TxnCalls t → TxnTurns (let u = record t { phase = x; lines = only_awaiting (coordinator_of t.lines) t.lines } in begins_phase u (line_at u.lines (coordinator_of t.lines) ∷ []))
txn_alone t x h =
    let u = record t { phase = x; lines = only_awaiting (coordinator_of t.lines) t.lines } in
    txn_begins u (line_at u.lines (coordinator_of t.lines) ∷ []) (record { call = h.call; lines = only_calls (coordinator_of t.lines) t.lines h.lines })

txn_prepare : (t : TxnSession) (at : Reading) → TxnCalls t → TxnTurns (goes_to_prepare t at)
txn_prepare t at h =
    let u = record t { phase = phase.Preparing; earliest_end = at.latest + t.margin; lines = all_awaiting t.lines } in
    txn_begins u u.lines (record { call = h.call; lines = lines_map (λ (l : Line). record l { state = Awaiting }) (λ l g. tt) t.lines h.lines })

txn_free : (t : TxnSession) (time : ℕ) (others : List Line) → TxnCalls t → TxnTurns (goes_to_free t time others)
txn_free t time [] h = txn_alone t (phase.FreeingLast time) h
txn_free t time (x ∷ others) h =
    let f = λ (m : Line). if leads t m then m else in_state m Awaiting in
    let u = record t { phase = phase.Freeing time; lines = map f t.lines } in
    txn_begins u (x ∷ others) (record { call = h.call; lines = lines_map f (λ m g. cond_both (leads t m) m (in_state m Awaiting) LineCalls (λ e. g) (λ e. tt)) t.lines h.lines })

txn_locked : (t : TxnSession) (at : Reading) → TxnCalls t → TxnTurns (is_locked t at)
txn_locked t at h =
    let others = filter (λ (m : Line). not (leads t m)) t.lines in
    cond_both (guard_of t.guard (values_shown t)) (goes_to_prepare t at) (goes_to_free t (failing_time t at) others) TxnTurns (λ e. txn_prepare t at h) (λ e. txn_free t (failing_time t at) others h)

txn_phase_ends : (t : TxnSession) (at : Reading) (x : TxnPhase) → TxnCalls t → TxnTurns (phase_ends t at x)
txn_phase_ends t at phase.Locking h = txn_locked t at h
txn_phase_ends t at phase.Preparing h = txn_alone t (phase.Deciding (greatest_prepared t.lines)) h
txn_phase_ends t at (phase.Freeing time) h = txn_alone t (phase.FreeingLast time) h
txn_phase_ends t at (phase.FreeingLast time) h = txn_quiet (record t { phase = phase.Failed time }) (record { call = h.call; lines = h.lines })
txn_phase_ends t at (phase.Deciding time) h = txn_quiet t h
txn_phase_ends t at (phase.Waiting time) h = txn_quiet t h
txn_phase_ends t at phase.Undoing h = txn_quiet t h
txn_phase_ends t at (phase.Committed time) h = txn_quiet t h
txn_phase_ends t at (phase.Failed time) h = txn_quiet t h

txn_told : (t : TxnSession) (at : Reading) (m : Line) → TxnCalls t → TxnTurns (is_told t at m)
txn_told t at m h =
    let u = record t { lines = with_line t.lines (in_state m Answered) } in
    let k : TxnCalls u = record { call = h.call; lines = with_calls t.lines (in_state m Answered) tt h.lines } in
    cond_both (is_phase_done u u.phase) (phase_ends u at u.phase) (quiet u) TxnTurns (λ e. txn_phase_ends u at u.phase k) (λ e. txn_quiet u k)

txn_goes : (t : TxnSession) (m : Line) (outs : List Out) → LineCalls m → All OutCalls outs → TxnCalls t → TxnTurns (line_goes t m outs)
txn_goes t m outs i o h = record { after = record { call = h.call; lines = with_calls t.lines m i h.lines }; outs = o }

txn_committed : (t : TxnSession) (time : ℕ) → TxnCalls t → TxnTurns (is_committed t time)
txn_committed t time h = record { after = record { call = h.call; lines = h.lines }; outs = tells_calls (attempt_of t) (Committed time) (shards_of t.lines) }

txn_decided : (t : TxnSession) (at : Reading) (outcome : Outcome) → TxnCalls t → TxnTurns (is_decided t at outcome)
txn_decided t at (Committed time) h = cond_both (nat_lt (wait_of t time) at.earliest) (is_committed t time) (quiet (record t { phase = phase.Waiting time })) TxnTurns (λ e. txn_committed t time h) (λ e. txn_quiet (record t { phase = phase.Waiting time }) (record { call = h.call; lines = h.lines }))
txn_decided t at Aborted h =
    let f = λ (l : Line). record l { state = Awaiting; shown = []; prepare_time = 0 } in
    let again = map f t.lines in
    let u = record t { k = t.k + 1; phase = phase.Locking; lines = again } in
    let a : TxnCalls u = record { call = h.call; lines = lines_map f (λ l g. tt) t.lines h.lines } in
    record { after = a; outs = All-append OutCalls (tells_decision (attempt_of t) Aborted (shards_of t.lines)) (asks_lines u again) (tells_calls (attempt_of t) Aborted (shards_of t.lines)) (asks_calls u again h.call) }

-- lines that go on by themselves
blocked_calls : (holders : List Holder) → All OfCall holders → StateCalls (blocked_state holders)
blocked_calls [] h = tt
blocked_calls (x ∷ holders) h = All-head OfCall x holders h

blocked_asks : (shard : ℕ) (holders : List Holder) → All OutCalls (blocked_outs shard holders)
blocked_asks shard [] = All-nil OutCalls
blocked_asks shard (x ∷ holders) = All-cons OutCalls (inquiry shard x) [] tt (All-nil OutCalls)

resolving_calls : (x : LineState) (outcome : Outcome) → StateCalls x → StateCalls (resolving_state x outcome)
resolving_calls (Inquiring holder) outcome h = h
resolving_calls Awaiting outcome h = tt
resolving_calls Answered outcome h = tt
resolving_calls (Resolving holder found) outcome h = h
resolving_calls (Asleep holder) outcome h = h
resolving_calls Dropped outcome h = tt

resolving_asks : (shard : ℕ) (x : LineState) (outcome : Outcome) → All OutCalls (resolving_outs shard x outcome)
resolving_asks shard (Inquiring holder) outcome = All-cons OutCalls (line_out shard (decision_request holder.attempt outcome)) [] (decision_calls holder.attempt outcome) (All-nil OutCalls)
resolving_asks shard Awaiting outcome = All-nil OutCalls
resolving_asks shard Answered outcome = All-nil OutCalls
resolving_asks shard (Resolving holder found) outcome = All-nil OutCalls
resolving_asks shard (Asleep holder) outcome = All-nil OutCalls
resolving_asks shard Dropped outcome = All-nil OutCalls

sleeping_calls : (x : LineState) → StateCalls x → StateCalls (sleeping_state x)
sleeping_calls (Inquiring holder) h = h
sleeping_calls Awaiting h = tt
sleeping_calls Answered h = tt
sleeping_calls (Resolving holder outcome) h = h
sleeping_calls (Asleep holder) h = h
sleeping_calls Dropped h = tt

woken_calls : (x : LineState) → StateCalls x → StateCalls (woken_state x)
woken_calls (Asleep holder) h = h
woken_calls Awaiting h = tt
woken_calls Answered h = tt
woken_calls (Inquiring holder) h = h
woken_calls (Resolving holder outcome) h = h
woken_calls Dropped h = tt

woken_asks : (shard : ℕ) (x : LineState) → All OutCalls (woken_outs shard x)
woken_asks shard (Asleep holder) = All-cons OutCalls (inquiry shard holder) [] tt (All-nil OutCalls)
woken_asks shard Awaiting = All-nil OutCalls
woken_asks shard Answered = All-nil OutCalls
woken_asks shard (Inquiring holder) = All-nil OutCalls
woken_asks shard (Resolving holder outcome) = All-nil OutCalls
woken_asks shard Dropped = All-nil OutCalls

pub txn_hears_calls : (t : TxnSession) (m : Line) (at : Reading) (r : Reply) → LineCalls m → ReplyCalls r → TxnCalls t → TxnTurns (txn_hears t m at r)
txn_hears_calls t m at (reply.Granted shown) i q h = txn_told t at (record m { shown = shown }) h
txn_hears_calls t m at (reply.Prepared time) i q h = txn_told t at (record m { prepare_time = time }) h
txn_hears_calls t m at reply.Released i q h = txn_told t at m h
txn_hears_calls t m at reply.Wounded i q h = txn_alone t phase.Undoing h
txn_hears_calls t m at (reply.Decided outcome) i q h = txn_decided t at outcome h
txn_hears_calls t m at (reply.Wait holders) i q h = txn_goes t (in_state m (blocked_state holders)) (blocked_outs m.shard holders) (blocked_calls holders q) (blocked_asks m.shard holders) h
txn_hears_calls t m at (reply.Blocked holders) i q h = txn_goes t (in_state m (blocked_state holders)) (blocked_outs m.shard holders) (blocked_calls holders q) (blocked_asks m.shard holders) h
txn_hears_calls t m at (reply.Outcome outcome) i q h = txn_goes t (in_state m (resolving_state m.state outcome)) (resolving_outs m.shard m.state outcome) (resolving_calls m.state outcome i) (resolving_asks m.shard m.state outcome) h
txn_hears_calls t m at reply.Open i q h = txn_goes t (in_state m (sleeping_state m.state)) [] (sleeping_calls m.state i) (All-nil OutCalls) h
txn_hears_calls t m at reply.Done i q h = txn_goes t (in_state m Awaiting) (line_out m.shard (txn_request t t.phase m) ∷ []) tt (All-cons OutCalls (line_out m.shard (txn_request t t.phase m)) [] (request_calls t t.phase m h.call) (All-nil OutCalls)) h
txn_hears_calls t m at (reply.Values versions skipped) i q h = txn_quiet t h
txn_hears_calls t m at reply.Fixed i q h = txn_quiet t h
txn_hears_calls t m at (reply.Held value stamp writer) i q h = txn_quiet t h
txn_hears_calls t m at reply.Stored i q h = txn_quiet t h

pub txn_wakes_calls : (t : TxnSession) (m : Line) → LineCalls m → TxnCalls t → TxnTurns (txn_wakes t m)
txn_wakes_calls t m i h = txn_goes t (in_state m (woken_state m.state)) (woken_outs m.shard m.state) (woken_calls m.state i) (woken_asks m.shard m.state) h

pub txn_passes_calls : (t : TxnSession) (x : TxnPhase) → TxnCalls t → TxnTurns (txn_passes t x)
txn_passes_calls t (phase.Waiting time) h = txn_committed t time h
txn_passes_calls t phase.Locking h = txn_quiet t h
txn_passes_calls t phase.Preparing h = txn_quiet t h
txn_passes_calls t (phase.Freeing time) h = txn_quiet t h
txn_passes_calls t (phase.FreeingLast time) h = txn_quiet t h
txn_passes_calls t (phase.Deciding time) h = txn_quiet t h
txn_passes_calls t phase.Undoing h = txn_quiet t h
txn_passes_calls t (phase.Committed time) h = txn_quiet t h
txn_passes_calls t (phase.Failed time) h = txn_quiet t h

pub txn_starts_calls : (home : ℕ → ℕ) (call : ℕ) (reads : List Key) (guard : Option (Compare ℕ)) (writes : List (Key × Expr ℕ)) (least margin : ℕ) → 1 ≤ call → TxnTurns (txn_starts (opening_txn home call reads guard writes least margin))
txn_starts_calls home call reads guard writes least margin l =
    txn_begins (opening_txn home call reads guard writes least margin) (lines_of home reads (written_keys writes)) (record { call = l; lines = begun_from home reads (written_keys writes) 1 16 })

-- SNAPSHOTS

pub record SnapTurns (turn : Turn SnapSession) : Type 0 where
  pub after : All LineCalls turn.after.lines
  pub outs : All OutCalls turn.outs

snap_quiet : (t : SnapSession) → All LineCalls t.lines → SnapTurns (quiet t)
snap_quiet t h = record { after = h; outs = All-nil OutCalls }

snap_request_calls : (t : SnapSession) (x : SnapPhase) (l : Line) → RequestCalls (snap_request t x l)
snap_request_calls t (snap.First time) l = tt
snap_request_calls t (snap.Second time) l = tt
snap_request_calls t (snap.Done time) l = tt

snap_asks_calls : (t : SnapSession) (asked : List Line) → All OutCalls (snap_asks t asked)
snap_asks_calls t asked = All-map OutCalls (λ (l : Line). line_out l.shard (snap_request t t.phase l)) asked (λ k d lt. snap_request_calls t t.phase (get_or asked k d))

snap_second : (t : SnapSession) (time : ℕ) (again : List Line) → All LineCalls t.lines → SnapTurns (second_round t time again)
snap_second t time [] h = snap_quiet (record t { phase = snap.Done time }) h
snap_second t time (x ∷ again) h =
    let f = λ (m : Line). if must_ask_again time m then in_state m Awaiting else m in
    let u = record t { phase = snap.Second time; lines = asked_again time t.lines } in
    record { after = lines_map f (λ m g. cond_both (must_ask_again time m) (in_state m Awaiting) m LineCalls (λ e. tt) (λ e. g)) t.lines h; outs = snap_asks_calls u (x ∷ again) }

snap_phase_calls : (t : SnapSession) (x : SnapPhase) → All LineCalls t.lines → SnapTurns (snap_phase_ends t x)
snap_phase_calls t (snap.First time) h = snap_second t (snapshot_time t) (filter (must_ask_again (snapshot_time t)) t.lines) h
snap_phase_calls t (snap.Second time) h = snap_quiet (record t { phase = snap.Done time }) h
snap_phase_calls t (snap.Done time) h = snap_quiet t h

snap_told_calls : (t : SnapSession) (m : Line) → All LineCalls t.lines → SnapTurns (snap_told t m)
snap_told_calls t m h =
    let u = record t { lines = with_line t.lines (in_state m Answered) } in
    let k : All LineCalls u.lines = with_calls t.lines (in_state m Answered) tt h in
    cond_both (all_answered u.lines) (snap_phase_ends u u.phase) (quiet u) SnapTurns (λ e. snap_phase_calls u u.phase k) (λ e. snap_quiet u k)

snap_goes : (t : SnapSession) (m : Line) (outs : List Out) → LineCalls m → All OutCalls outs → All LineCalls t.lines → SnapTurns (snap_line_goes t m outs)
snap_goes t m outs i o h = record { after = with_calls t.lines m i h; outs = o }

pub snap_hears_calls : (t : SnapSession) (m : Line) (r : Reply) → LineCalls m → ReplyCalls r → All LineCalls t.lines → SnapTurns (snap_hears t m r)
snap_hears_calls t m (reply.Values versions skipped) i q h = snap_told_calls t (record m { shown = versions; skipped = skipped }) h
snap_hears_calls t m (reply.Wait holders) i q h = snap_goes t (in_state m (blocked_state holders)) (blocked_outs m.shard holders) (blocked_calls holders q) (blocked_asks m.shard holders) h
snap_hears_calls t m (reply.Blocked holders) i q h = snap_goes t (in_state m (blocked_state holders)) (blocked_outs m.shard holders) (blocked_calls holders q) (blocked_asks m.shard holders) h
snap_hears_calls t m (reply.Outcome outcome) i q h = snap_goes t (in_state m (resolving_state m.state outcome)) (resolving_outs m.shard m.state outcome) (resolving_calls m.state outcome i) (resolving_asks m.shard m.state outcome) h
snap_hears_calls t m reply.Open i q h = snap_goes t (in_state m (sleeping_state m.state)) [] (sleeping_calls m.state i) (All-nil OutCalls) h
snap_hears_calls t m reply.Done i q h = snap_goes t (in_state m Awaiting) (line_out m.shard (snap_request t t.phase m) ∷ []) tt (All-cons OutCalls (line_out m.shard (snap_request t t.phase m)) [] (snap_request_calls t t.phase m) (All-nil OutCalls)) h
snap_hears_calls t m (reply.Granted shown) i q h = snap_quiet t h
snap_hears_calls t m (reply.Prepared time) i q h = snap_quiet t h
snap_hears_calls t m reply.Released i q h = snap_quiet t h
snap_hears_calls t m reply.Wounded i q h = snap_quiet t h
snap_hears_calls t m (reply.Decided outcome) i q h = snap_quiet t h
snap_hears_calls t m reply.Fixed i q h = snap_quiet t h
snap_hears_calls t m (reply.Held value stamp writer) i q h = snap_quiet t h
snap_hears_calls t m reply.Stored i q h = snap_quiet t h

pub snap_wakes_calls : (t : SnapSession) (m : Line) → LineCalls m → All LineCalls t.lines → SnapTurns (snap_wakes t m)
snap_wakes_calls t m i h = snap_goes t (in_state m (woken_state m.state)) (woken_outs m.shard m.state) (woken_calls m.state i) (woken_asks m.shard m.state) h

pub snap_starts_calls : (home : ℕ → ℕ) (call : ℕ) (keys : List Key) (least : ℕ) (at : Reading) → SnapTurns (snap_starts (opening_snapshot home call keys least at))
snap_starts_calls home call keys least at = let u = opening_snapshot home call keys least at in record { after = begun_from home keys [] 1 16; outs = snap_asks_calls u u.lines }
