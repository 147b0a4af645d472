-- What a shard can reply to each kind of request.
use Rattle.std.proofs.Common.{◌≡◌, ◌⊎◌, inl, inr, ℕ, Bool, true, false, ◌||◌, List, [], ◌∷◌, ◌++◌, length, Option, Some, None, is_some, refl, sym, ◌∙◌}
use Rattle.std.specs.Prelude.{◌==◌, if◌then◌else◌}
use Rattle.std.proofs.lemmas.Bool.{cond_both, true≢false, or_cases}
use Rattle.rss_names.specs.declared.attempt.Attempt.{Attempt}
use Rattle.rss_names.specs.declared.service.Key.{Key}
use Rattle.rss_wire.specs.declared.messages.Holder.{Holder}
use Rattle.rss_wire.specs.declared.messages.Outcome.{Outcome}
use Rattle.rss_wire.specs.declared.messages.Skipped.{Skipped}
use Rattle.rss_wire.specs.declared.messages.Version.{Version}
use Rattle.rss_wire.specs.declared.messages.Request.TheVariants as request
use Rattle.rss_wire.specs.declared.messages.Reply.{Reply}
use Rattle.rss_wire.specs.declared.messages.Reply.TheVariants as reply
use Rattle.rss_tables.specs.Attempts.{same_attempt, has_attempt, attempt_lt}
use Rattle.rss_tables.specs.Lines.{decision_request}
use Rattle.rss_wire.specs.declared.messages.Outcome.TheVariants.{Committed, Aborted}
use Rattle.rss_tables.specs.Locks.{LockHolder, Locks, holds, is_tombstoned, in_way_of, with_holder, after_wounds, taken, after_lock, named_holders}
use Rattle.rss_tables.specs.Prepared.{PreparedWriter, prepared_of, prepared_attempts, blocking, passed_by, named_blocking, named_skipped}
use Rattle.rss_tables.specs.Versions.{newest_of, versions_at}
use Rattle.rss_tables.specs.ShardRow.{Shard, decision_in, asked_outcome, is_clear, prepare_reply, decide_reply, inquire_reply, shard_after, shard_reply}
use Rattle.shard_laws.proofs.Entries.{same_itself}

-- to a request for locks
pub data LockReply : Reply → Type 0 where
  lock_wounded : LockReply reply.Wounded
  lock_granted : (shown : List (Key × Version)) → LockReply (reply.Granted shown)
  lock_waits : (holder : Holder) (holders : List Holder) → LockReply (reply.Wait (holder ∷ holders))

-- to a request to prepare
pub data PrepareReply : Reply → Type 0 where
  prepare_wounded : PrepareReply reply.Wounded
  is_prepared_at : (time : ℕ) → PrepareReply (reply.Prepared time)

-- to a request to decide
pub data DecideReply : Reply → Type 0 where
  decides_as : (outcome : Outcome) → DecideReply (reply.Decided outcome)

-- to a request to give locks back
pub data ReleaseReply : Reply → Type 0 where
  release_wounded : ReleaseReply reply.Wounded
  has_released : ReleaseReply reply.Released

-- to who asks for a decision
pub data InquireReply : Reply → Type 0 where
  not_decided : InquireReply reply.Open
  decided_as : (outcome : Outcome) → InquireReply (reply.Outcome outcome)

-- to a snapshot
pub data SnapReply : Reply → Type 0 where
  snap_values : (versions : List (Key × Version)) (skipped : List Skipped) → SnapReply (reply.Values versions skipped)
  snap_blocked : (holder : Holder) (holders : List Holder) → SnapReply (reply.Blocked (holder ∷ holders))

-- to a decision that is passed on
pub data DecisionReply : Reply → Type 0 where
  is_done : DecisionReply reply.Done

-- who takes locks holds them
holder_put : (holders : List LockHolder) (new : LockHolder) (tombs : List Attempt) → holds (record { holders = with_holder holders new; tombs = tombs }) new.attempt ≡ true
holder_put [] new tombs = rw (same_itself new.attempt) refl
holder_put (h ∷ holders) new tombs = by_order (attempt_lt new.attempt h.attempt) refl (holder_put holders new tombs)
  where
    by_there : (b : Bool) → holds (record { holders = with_holder holders new; tombs = tombs }) new.attempt ≡ true → (b || holds (record { holders = with_holder holders new; tombs = tombs }) new.attempt) ≡ true
    by_there true e = refl
    by_there false e = e

    by_order : (b : Bool) → attempt_lt new.attempt h.attempt ≡ b → holds (record { holders = with_holder holders new; tombs = tombs }) new.attempt ≡ true → holds (record { holders = with_holder (h ∷ holders) new; tombs = tombs }) new.attempt ≡ true
    by_order true e ih = rw e (rw (same_itself new.attempt) refl)
    by_order false e ih = rw e (by_there (same_attempt new.attempt h.attempt) ih)

-- where an attempt asked for locks, has none and is not tombstoned, somebody is in its way
way_left : (locks : Locks) (prepared : List Attempt) (new : LockHolder) → is_tombstoned (after_lock locks prepared new) new.attempt ≡ false → holds (after_lock locks prepared new) new.attempt ≡ false → (length (in_way_of (after_lock locks prepared new) new.attempt new.reads new.writes) == 0) ≡ false
way_left locks prepared new = cond_both (is_tombstoned locks new.attempt || holds locks new.attempt) locks (taken (after_wounds locks prepared new.attempt new.reads new.writes) new) Left
    (λ e t h. absurd (neither (or_cases (is_tombstoned locks new.attempt) (holds locks new.attempt) e) t h))
    (λ e. cond_both (length (in_way_of (after_wounds locks prepared new.attempt new.reads new.writes) new.attempt new.reads new.writes) == 0)
    (record (after_wounds locks prepared new.attempt new.reads new.writes) { holders = with_holder (after_wounds locks prepared new.attempt new.reads new.writes).holders new })
    (after_wounds locks prepared new.attempt new.reads new.writes) Left
    (λ z t h. absurd (true≢false (sym (holder_put (after_wounds locks prepared new.attempt new.reads new.writes).holders new (after_wounds locks prepared new.attempt new.reads new.writes).tombs) ∙ h)))
    (λ z t h. z))
  where
    Left : Locks → Type 0
    Left l = is_tombstoned l new.attempt ≡ false → holds l new.attempt ≡ false → (length (in_way_of l new.attempt new.reads new.writes) == 0) ≡ false

    neither : (is_tombstoned locks new.attempt ≡ true) ⊎ (holds locks new.attempt ≡ true) → is_tombstoned locks new.attempt ≡ false → holds locks new.attempt ≡ false → ⊥
    neither (inl a) t h = true≢false (sym a ∙ t)
    neither (inr a) t h = true≢false (sym a ∙ h)

named_waits : (hs : List LockHolder) → (length hs == 0) ≡ false → LockReply (reply.Wait (named_holders hs))
named_waits [] e = absurd (true≢false e)
named_waits (h ∷ hs) e = lock_waits _ _

pub lock_kind : (sh : Shard) (latest : ℕ) (attempt : Attempt) (coordinator : ℕ) (reads writes : List Key) → LockReply (shard_reply sh latest (request.Lock attempt coordinator reads writes))
unfolding shard_reply shard_after
lock_kind sh latest attempt coordinator reads writes =
    cond_both (is_tombstoned locks attempt) reply.Wounded (if holds locks attempt then reply.Granted (newest_of sh.store reads) else reply.Wait (named_holders (in_way_of locks attempt reads writes))) LockReply
    (λ t. lock_wounded)
    (λ t. cond_both (holds locks attempt) (reply.Granted (newest_of sh.store reads)) (reply.Wait (named_holders (in_way_of locks attempt reads writes))) LockReply
    (λ h. lock_granted (newest_of sh.store reads))
    (λ h. named_waits (in_way_of locks attempt reads writes) (way_left sh.locks (prepared_attempts sh.prepared) new t h)))
  where
    new : LockHolder
    new = record { attempt = attempt; coordinator = coordinator; reads = reads; writes = writes }

    locks : Locks
    locks = after_lock sh.locks (prepared_attempts sh.prepared) new

pub prepare_kind : (sh : Shard) (latest : ℕ) (attempt : Attempt) (least earliest_end : ℕ) (writes : List (Key × ℕ)) → PrepareReply (shard_reply sh latest (request.Prepare attempt least earliest_end writes))
unfolding shard_reply
prepare_kind sh latest attempt least earliest_end writes = by_entry (prepared_of (shard_after sh latest (request.Prepare attempt least earliest_end writes)).prepared attempt)
  where
    by_entry : (p : Option PreparedWriter) → PrepareReply (prepare_reply p)
    by_entry None = prepare_wounded
    by_entry (Some p) = is_prepared_at p.prepare_time

-- a decision is kept of who is asked to decide
last_decision : (decisions : List (Attempt × Outcome)) (attempt : Attempt) (outcome : Outcome) → DecideReply (decide_reply (decision_in (decisions ++ (attempt, outcome) ∷ []) attempt))
last_decision [] attempt outcome = rw (same_itself attempt) (decides_as outcome)
last_decision (d ∷ decisions) attempt outcome =
    cond_both (same_attempt attempt d.0) (Some d.1) (decision_in (decisions ++ (attempt, outcome) ∷ []) attempt) (λ (o : Option Outcome). DecideReply (decide_reply o)) (λ e. decides_as d.1) (λ e. last_decision decisions attempt outcome)

some_decides : (o : Option Outcome) → is_some o ≡ true → DecideReply (decide_reply o)
some_decides None e = absurd (true≢false (sym e))
some_decides (Some outcome) e = decides_as outcome

pub decide_kind : (sh : Shard) (latest : ℕ) (attempt : Attempt) (commit : Bool) (time : ℕ) → DecideReply (shard_reply sh latest (request.Decide attempt commit time))
unfolding shard_reply shard_after
decide_kind sh latest attempt commit time =
    cond_both (is_some (decision_in sh.decisions attempt)) sh (record sh { decisions = sh.decisions ++ (attempt, asked_outcome commit time latest) ∷ [] }) (λ (w : Shard). DecideReply (decide_reply (decision_in w.decisions attempt)))
    (λ e. some_decides (decision_in sh.decisions attempt) e) (λ e. last_decision sh.decisions attempt (asked_outcome commit time latest))

pub release_kind : (sh : Shard) (latest : ℕ) (attempt : Attempt) (time : ℕ) (last : Bool) → ReleaseReply (shard_reply sh latest (request.Release attempt time last))
unfolding shard_reply
release_kind sh latest attempt time last =
    cond_both (has_attempt (shard_after sh latest (request.Release attempt time last)).released attempt) reply.Released reply.Wounded ReleaseReply (λ e. has_released) (λ e. release_wounded)

pub inquire_kind : (sh : Shard) (latest : ℕ) (attempt : Attempt) → InquireReply (shard_reply sh latest (request.Inquire attempt))
unfolding shard_reply
inquire_kind sh latest attempt = by_decision (decision_in sh.decisions attempt)
  where
    by_decision : (o : Option Outcome) → InquireReply (inquire_reply o)
    by_decision None = not_decided
    by_decision (Some outcome) = decided_as outcome

pub decision_kind : (sh : Shard) (latest : ℕ) (attempt : Attempt) (outcome : Outcome) → DecisionReply (shard_reply sh latest (decision_request attempt outcome))
unfolding shard_reply
decision_kind sh latest attempt (Committed time) = is_done
decision_kind sh latest attempt Aborted = is_done

named_blocks : (ps : List PreparedWriter) → (length ps == 0) ≡ false → SnapReply (reply.Blocked (named_blocking ps))
named_blocks [] e = absurd (true≢false e)
named_blocks (p ∷ ps) e = snap_blocked _ _

pub snapshot_kind : (sh : Shard) (latest read_time least : ℕ) (keys : List Key) (skip : Bool) → SnapReply (shard_reply sh latest (request.Snapshot read_time least keys skip))
unfolding shard_reply
snapshot_kind sh latest read_time least keys skip =
    cond_both (is_clear sh keys read_time least skip) (reply.Values (versions_at sh.store keys read_time) (named_skipped (passed_by sh.prepared keys read_time least skip))) (reply.Blocked (named_blocking (blocking sh.prepared keys read_time least skip))) SnapReply
    (λ e. snap_values (versions_at sh.store keys read_time) (named_skipped (passed_by sh.prepared keys read_time least skip)))
    (λ e. named_blocks (blocking sh.prepared keys read_time least skip) e)
