-- The session of a read-write transaction: it locks its keys on all shards, prepares them, has its
-- coordinator decide, and ends when its commit time and its earliest end have passed. The
-- coordinator is the least of its shards.
use Rattle.std.specs.Prelude.{ℕ, ◌+◌, max, Bool, true, false, ◌==◌, not, List, [], ◌∷◌, ◌++◌, map, Option, Some, None, nat_lt, if◌then◌else◌}
use Rattle.std.specs.List.{filter}
use Rattle.rss_names.specs.declared.service.Key.{Key}
use Rattle.rss_names.specs.declared.attempt.Attempt.{Attempt}
use Rattle.pipeline_lang.specs.declared.script.Expr.{Expr}
use Rattle.pipeline_lang.specs.declared.script.Compare.{Compare}
use Rattle.truetime.specs.Reading.{Reading}
use Rattle.rss_model.specs.Formula.{formula_value, guard_value}
use Rattle.rss_model.specs.declared.op.Shown.{Shown}
use Rattle.rss_wire.specs.declared.messages.Holder.{Holder}
use Rattle.rss_wire.specs.declared.messages.Outcome.{Outcome}
use Rattle.rss_wire.specs.declared.messages.Outcome.TheVariants.{Committed, Aborted}
use Rattle.rss_wire.specs.declared.messages.Version.{Version}
use Rattle.rss_wire.specs.declared.messages.Request.{Request}
use Rattle.rss_wire.specs.declared.messages.Request.TheVariants as request
use Rattle.rss_wire.specs.declared.messages.Reply.{Reply}
use Rattle.rss_wire.specs.declared.messages.Reply.TheVariants as reply
use Rattle.rss_wire.specs.declared.messages.Progress.{Progress}
use Rattle.rss_wire.specs.declared.messages.Progress.TheVariants as progress
use Rattle.rss_tables.specs.Locks.{has_key}
use Rattle.rss_tables.specs.Outs.{Out, line_out}
use Rattle.rss_tables.specs.Turns.{Turn, quiet}
use Rattle.rss_tables.specs.Lines.{Line, lines_of, shards_of, coordinator_of, line_at, with_line, all_answered, all_awaiting, only_awaiting, in_state, shown_on, blocked_state, blocked_outs, resolving_state, resolving_outs, sleeping_state, woken_state, woken_outs, tells_decision}
use Rattle.rss_tables.specs.declared.lines.LineState.TheVariants.{Awaiting, Answered}
use Rattle.rss_tables.specs.declared.phases.TxnPhase.{TxnPhase}
use Rattle.rss_tables.specs.declared.phases.TxnPhase.TheVariants as phase

-- a session: its call and operation, the least time of its service in its context, how far ahead
-- its stage may end, the number of its attempt from 1, its phase, the time before which this
-- attempt cannot end, and its lines by ascending shard
pub record TxnSession : Type 0 where
  pub call : ℕ
  pub reads : List Key
  pub guard : Option (Compare ℕ)
  pub writes : List (Key × Expr ℕ)
  pub least : ℕ
  pub margin : ℕ
  pub k : ℕ
  pub phase : TxnPhase
  pub earliest_end : ℕ
  pub lines : List Line

-- the attempt under way
abbrev pub attempt_of : TxnSession → Attempt
attempt_of t = record { call = t.call; k = t.k }

-- the keys of writes
abbrev pub written_keys : List (Key × Expr ℕ) → List Key
written_keys writes = map (λ (write : Key × Expr ℕ). write.0) writes

-- a session that has sent nothing yet
abbrev pub opening_txn : (ℕ → ℕ) → ℕ → List Key → Option (Compare ℕ) → List (Key × Expr ℕ) → ℕ → ℕ → TxnSession
opening_txn home call reads guard writes least margin = record {
  call = call;
  reads = reads;
  guard = guard;
  writes = writes;
  least = least;
  margin = margin;
  k = 1;
  phase = phase.Locking;
  earliest_end = 0;
  lines = lines_of home reads (written_keys writes);
}

-- the values shown of the keys that it reads, in order
abbrev pub values_shown : TxnSession → List ℕ
values_shown t = map (λ key. (shown_on t.lines key).value) t.reads

-- the reply: what was shown of each key that it reads
abbrev pub shown_reply : List Key → List Line → List Shown
shown_reply keys lines = map (λ key. record { key = key; value = (shown_on lines key).value; writer = (shown_on lines key).writer }) keys

-- whether a guard, if there is one, holds of values
abbrev pub guard_of : Option (Compare ℕ) → List ℕ → Bool
guard_of None values = true
guard_of (Some guard) values = guard_value guard values

-- the values that it writes
abbrev pub computed : TxnSession → List (Key × ℕ)
computed t = map (λ (write : Key × Expr ℕ). (write.0, formula_value write.1 (values_shown t))) t.writes

-- those of the writes on a line's shard
abbrev pub writes_on : Line → List (Key × ℕ) → List (Key × ℕ)
writes_on l writes = filter (λ (write : Key × ℕ). has_key l.writes write.0) writes

-- the greatest prepare time of lines
abbrev pub greatest_prepared : List Line → ℕ
greatest_prepared [] = 0
greatest_prepared (l ∷ lines) = max l.prepare_time (greatest_prepared lines)

-- the greatest time of versions
abbrev pub greatest_time : List (Key × Version) → ℕ
greatest_time [] = 0
greatest_time (entry ∷ shown) = max entry.1.time (greatest_time shown)

-- the greatest time of the versions that lines show
abbrev pub greatest_shown : List Line → ℕ
greatest_shown [] = 0
greatest_shown (l ∷ lines) = max (greatest_time l.shown) (greatest_shown lines)

-- whether a line is the coordinator's
abbrev pub leads : TxnSession → Line → Bool
leads t l = l.shard == coordinator_of t.lines

-- the request of a phase to a line
abbrev pub txn_request : TxnSession → TxnPhase → Line → Request
txn_request t phase.Locking l = request.Lock (attempt_of t) (coordinator_of t.lines) l.reads l.writes
txn_request t phase.Preparing l = request.Prepare (attempt_of t) t.least t.earliest_end (writes_on l (computed t))
txn_request t (phase.Freeing time) l = request.Release (attempt_of t) time false
txn_request t (phase.FreeingLast time) l = request.Release (attempt_of t) time true
txn_request t (phase.Deciding time) l = request.Decide (attempt_of t) true time
txn_request t phase.Undoing l = request.Decide (attempt_of t) false 0
txn_request t (phase.Waiting time) l = request.Inquire (attempt_of t)
txn_request t (phase.Committed time) l = request.Inquire (attempt_of t)
txn_request t (phase.Failed time) l = request.Inquire (attempt_of t)

-- the requests of its phase to these lines
abbrev pub asks_lines : TxnSession → List Line → List Out
asks_lines t lines = map (λ (l : Line). line_out l.shard (txn_request t t.phase l)) lines

-- a new phase begins: these lines await it
abbrev pub begins_phase : TxnSession → List Line → Turn TxnSession
begins_phase t asked = record { after = t; anew = true; outs = asks_lines t asked }

-- the session begins: it asks all shards for its locks
abbrev pub txn_starts : TxnSession → Turn TxnSession
txn_starts t = begins_phase t t.lines

-- all locks are held and the guard holds: the writes are computed, and all shards are asked to prepare
abbrev pub goes_to_prepare : TxnSession → Reading → Turn TxnSession
goes_to_prepare t at =
    let u = record t { phase = phase.Preparing; earliest_end = at.latest + t.margin; lines = all_awaiting t.lines } in
    begins_phase u u.lines

-- the coordinator comes last, so that whoever asks it learns of the end only when all have released
abbrev pub goes_to_free_last : TxnSession → ℕ → Turn TxnSession
goes_to_free_last t time =
    let u = record t { phase = phase.FreeingLast time; lines = only_awaiting (coordinator_of t.lines) t.lines } in
    begins_phase u (line_at u.lines (coordinator_of t.lines) ∷ [])

-- the guard failed: the others are asked to release at this time, the coordinator's line stays answered
abbrev pub goes_to_free : TxnSession → ℕ → List Line → Turn TxnSession
goes_to_free t time [] = goes_to_free_last t time
goes_to_free t time (l ∷ others) =
    let u = record t { phase = phase.Freeing time; lines = map (λ (m : Line). if leads t m then m else in_state m Awaiting) t.lines } in
    begins_phase u (l ∷ others)

-- the time of a transaction whose guard failed
abbrev pub failing_time : TxnSession → Reading → ℕ
failing_time t at = max at.latest (max t.least (greatest_shown t.lines))

-- all locks are held
abbrev pub is_locked : TxnSession → Reading → Turn TxnSession
is_locked t at =
    if guard_of t.guard (values_shown t) then
    goes_to_prepare t at
    else
    goes_to_free t (failing_time t at) (filter (λ (l : Line). not (leads t l)) t.lines)

-- all shards are prepared: the coordinator is asked to commit at the greatest prepare time or later
abbrev pub is_prepared : TxnSession → Turn TxnSession
is_prepared t =
    let u = record t { phase = phase.Deciding (greatest_prepared t.lines); lines = only_awaiting (coordinator_of t.lines) t.lines } in
    begins_phase u (line_at u.lines (coordinator_of t.lines) ∷ [])

-- all awaited lines of a phase are answered
abbrev pub phase_ends : TxnSession → Reading → TxnPhase → Turn TxnSession
phase_ends t at phase.Locking = is_locked t at
phase_ends t at phase.Preparing = is_prepared t
phase_ends t at (phase.Freeing time) = goes_to_free_last t time
phase_ends t at (phase.FreeingLast time) = quiet (record t { phase = phase.Failed time })
phase_ends t at (phase.Deciding time) = quiet t
phase_ends t at (phase.Waiting time) = quiet t
phase_ends t at phase.Undoing = quiet t
phase_ends t at (phase.Committed time) = quiet t
phase_ends t at (phase.Failed time) = quiet t

-- whether the phase's work is done: all lines answered, or in the last release the coordinator's alone
abbrev pub is_phase_done : TxnSession → TxnPhase → Bool
is_phase_done t phase.Locking = all_answered t.lines
is_phase_done t phase.Preparing = all_answered t.lines
is_phase_done t (phase.Freeing time) = all_answered t.lines
is_phase_done t (phase.FreeingLast time) = true
is_phase_done t (phase.Deciding time) = false
is_phase_done t (phase.Waiting time) = false
is_phase_done t phase.Undoing = false
is_phase_done t (phase.Committed time) = false
is_phase_done t (phase.Failed time) = false

-- a line is answered
abbrev pub is_told : TxnSession → Reading → Line → Turn TxnSession
is_told t at l =
    let u = record t { lines = with_line t.lines (in_state l Answered) } in
    if is_phase_done u u.phase then phase_ends u at u.phase else quiet u

-- a line goes on by itself
abbrev pub line_goes : TxnSession → Line → List Out → Turn TxnSession
line_goes t l outs = record { after = record t { lines = with_line t.lines l }; anew = false; outs = outs }

-- the attempt was wounded: all lines are dropped, and the coordinator is asked to decide without commit
abbrev pub is_wounded : TxnSession → Turn TxnSession
is_wounded t =
    let u = record t { phase = phase.Undoing; lines = only_awaiting (coordinator_of t.lines) t.lines } in
    begins_phase u (line_at u.lines (coordinator_of t.lines) ∷ [])

-- the time until which a committed transaction waits
abbrev pub wait_of : TxnSession → ℕ → ℕ
wait_of t time = max time t.earliest_end

-- the commit is told to all shards
abbrev pub is_committed : TxnSession → ℕ → Turn TxnSession
is_committed t time = record {
  after = record t { phase = phase.Committed time };
  anew = false;
  outs = tells_decision (attempt_of t) (Committed time) (shards_of t.lines);
}

-- the decision came: a commit waits for its time, unless that has passed; after an abort, which is
-- told to all shards, the next attempt begins
abbrev pub is_decided : TxnSession → Reading → Outcome → Turn TxnSession
is_decided t at (Committed time) =
    if nat_lt (wait_of t time) at.earliest then is_committed t time else quiet (record t { phase = phase.Waiting time })
is_decided t at Aborted =
    let u = record t { k = t.k + 1; phase = phase.Locking; lines = map (λ (l : Line). record l { state = Awaiting; shown = []; prepare_time = 0 }) t.lines } in
    record { after = u; anew = true; outs = tells_decision (attempt_of t) Aborted (shards_of t.lines) ++ asks_lines u u.lines }

-- a reply to the current exchange of a line
abbrev pub txn_hears : TxnSession → Line → Reading → Reply → Turn TxnSession
txn_hears t l at (reply.Granted shown) = is_told t at (record l { shown = shown })
txn_hears t l at (reply.Prepared time) = is_told t at (record l { prepare_time = time })
txn_hears t l at reply.Released = is_told t at l
txn_hears t l at reply.Wounded = is_wounded t
txn_hears t l at (reply.Decided outcome) = is_decided t at outcome
txn_hears t l at (reply.Wait holders) = line_goes t (in_state l (blocked_state holders)) (blocked_outs l.shard holders)
txn_hears t l at (reply.Blocked holders) = line_goes t (in_state l (blocked_state holders)) (blocked_outs l.shard holders)
txn_hears t l at (reply.Outcome outcome) = line_goes t (in_state l (resolving_state l.state outcome)) (resolving_outs l.shard l.state outcome)
txn_hears t l at reply.Open = line_goes t (in_state l (sleeping_state l.state)) []
txn_hears t l at reply.Done = line_goes t (in_state l Awaiting) (line_out l.shard (txn_request t t.phase l) ∷ [])
txn_hears t l at (reply.Values versions skipped) = quiet t
txn_hears t l at reply.Fixed = quiet t
txn_hears t l at (reply.Held value stamp writer) = quiet t
txn_hears t l at reply.Stored = quiet t

-- an asleep line asks again
abbrev pub txn_wakes : TxnSession → Line → Turn TxnSession
txn_wakes t l = line_goes t (in_state l (woken_state l.state)) (woken_outs l.shard l.state)

-- the time that a committed transaction waits for
abbrev pub waiting_time : TxnSession → TxnPhase → Option ℕ
waiting_time t (phase.Waiting time) = Some (wait_of t time)
waiting_time t phase.Locking = None
waiting_time t phase.Preparing = None
waiting_time t (phase.Freeing time) = None
waiting_time t (phase.FreeingLast time) = None
waiting_time t (phase.Deciding time) = None
waiting_time t phase.Undoing = None
waiting_time t (phase.Committed time) = None
waiting_time t (phase.Failed time) = None

-- the time has passed
abbrev pub txn_passes : TxnSession → TxnPhase → Turn TxnSession
txn_passes t (phase.Waiting time) = is_committed t time
txn_passes t phase.Locking = quiet t
txn_passes t phase.Preparing = quiet t
txn_passes t (phase.Freeing time) = quiet t
txn_passes t (phase.FreeingLast time) = quiet t
txn_passes t (phase.Deciding time) = quiet t
txn_passes t phase.Undoing = quiet t
txn_passes t (phase.Committed time) = quiet t
txn_passes t (phase.Failed time) = quiet t

-- the time with which a transaction has ended
abbrev pub txn_end : TxnPhase → Option ℕ
txn_end (phase.Committed time) = Some time
txn_end (phase.Failed time) = Some time
txn_end phase.Locking = None
txn_end phase.Preparing = None
txn_end (phase.Freeing time) = None
txn_end (phase.FreeingLast time) = None
txn_end (phase.Deciding time) = None
txn_end (phase.Waiting time) = None
txn_end phase.Undoing = None

-- whether its guard failed
abbrev pub has_failed : TxnPhase → Bool
has_failed (phase.Failed time) = true
has_failed (phase.Committed time) = false
has_failed phase.Locking = false
has_failed phase.Preparing = false
has_failed (phase.Freeing time) = false
has_failed (phase.FreeingLast time) = false
has_failed (phase.Deciding time) = false
has_failed (phase.Waiting time) = false
has_failed phase.Undoing = false
