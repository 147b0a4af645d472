-- A shard that serves a request of a coordinator of the file knows and names such alone.
use Rattle.std.proofs.Common.{ℕ, ◌==◌, Bool, true, false, ◌||◌, not, List, [], ◌∷◌, length, filter, Option, Some, None}
use Rattle.std.specs.Prelude.{⊤, is_some, if◌then◌else◌}
use Rattle.std.proofs.lemmas.Bool.{cond_both}
use Rattle.rss_names.specs.declared.attempt.Attempt.{Attempt}
use Rattle.rss_names.specs.declared.service.Key.{Key}
use Rattle.pipeline_lang.specs.declared.config.Config.{Config}
use Rattle.rss_wire.specs.declared.messages.Outcome.{Outcome}
use Rattle.rss_wire.specs.declared.messages.Outcome.TheVariants.{Aborted}
use Rattle.rss_wire.specs.declared.messages.Reply.TheVariants as reply
use Rattle.rss_wire.specs.declared.messages.Request.{Request}
use Rattle.rss_wire.specs.declared.messages.Request.TheVariants.{Lock, Prepare, Decide, Commit, Abort, Inquire, Release, Snapshot, Fix, Ask, Stamp, Store}
use Rattle.rss_tables.specs.Attempts.{same_attempt, has_attempt, attempt_lt}
use Rattle.rss_tables.specs.Locks.{LockHolder, Locks, holds, is_tombstoned, coordinator_in, after_lock, after_wounds, taken, is_wounded_by, in_way_of, conflicts, with_holder, named_holders}
use Rattle.rss_tables.specs.Prepared.{PreparedWriter, prepared_of, prepared_attempts, with_prepared, blocking, passed_by, named_blocking, named_skipped}
use Rattle.rss_tables.specs.ShardRow.{Shard, shard_after, shard_reply, prepares, prepare_time, keeps_decision, asked_outcome, commits, tombstones, can_release, releases, releases_last, is_clear, lock_reply, prepare_reply, decide_reply, inquire_reply, decision_in}
use Rattle.rss_tables.specs.Versions.{versions_at, newest_of}
use Rattle.target_laws.specs.InFile.{InFile, HoldersIn, LocksIn, PreparedIn, ShardIn, RequestIn, ReplyIn}

-- LISTS

locks_filter : (c : Config) (p : LockHolder → Bool) (holders : List LockHolder) → LocksIn c holders → LocksIn c (filter p holders)
locks_filter c p [] h = tt
locks_filter c p (x ∷ holders) h = let r = locks_filter c p holders h.1 in cond_both (p x) (x ∷ filter p holders) (filter p holders) (LocksIn c) (λ e. (h.0, r)) (λ e. r)

locks_with : (c : Config) (holders : List LockHolder) (new : LockHolder) → InFile c new.coordinator → LocksIn c holders → LocksIn c (with_holder holders new)
locks_with c [] new i h = (i, tt)
locks_with c (x ∷ holders) new i h = let r = locks_with c holders new i h.1 in cond_both (attempt_lt new.attempt x.attempt) (new ∷ x ∷ holders) (x ∷ with_holder holders new) (LocksIn c) (λ e. (i, h)) (λ e. (h.0, r))

locks_named : (c : Config) (holders : List LockHolder) → LocksIn c holders → HoldersIn c (named_holders holders)
locks_named c [] h = tt
locks_named c (x ∷ holders) h = (h.0, locks_named c holders h.1)

prepared_filter : (c : Config) (p : PreparedWriter → Bool) (prepared : List PreparedWriter) → PreparedIn c prepared → PreparedIn c (filter p prepared)
prepared_filter c p [] h = tt
prepared_filter c p (x ∷ prepared) h = let r = prepared_filter c p prepared h.1 in cond_both (p x) (x ∷ filter p prepared) (filter p prepared) (PreparedIn c) (λ e. (h.0, r)) (λ e. r)

prepared_with : (c : Config) (prepared : List PreparedWriter) (new : PreparedWriter) → InFile c new.coordinator → PreparedIn c prepared → PreparedIn c (with_prepared prepared new)
prepared_with c [] new i h = (i, tt)
prepared_with c (x ∷ prepared) new i h = let r = prepared_with c prepared new i h.1 in cond_both (attempt_lt new.attempt x.attempt) (new ∷ x ∷ prepared) (x ∷ with_prepared prepared new) (PreparedIn c) (λ e. (i, h)) (λ e. (h.0, r))

prepared_named : (c : Config) (prepared : List PreparedWriter) → PreparedIn c prepared → HoldersIn c (named_blocking prepared)
prepared_named c [] h = tt
prepared_named c (x ∷ prepared) h = (h.0, prepared_named c prepared h.1)

-- the coordinator that a holder named
abbrev CoordinatorIn : Config → Option ℕ → Type 0
CoordinatorIn c None = ⊤
CoordinatorIn c (Some n) = InFile c n

coordinator_held : (c : Config) (holders : List LockHolder) (a : Attempt) → LocksIn c holders → CoordinatorIn c (coordinator_in holders a)
coordinator_held c [] a h = tt
coordinator_held c (x ∷ holders) a h = cond_both (same_attempt a x.attempt) (Some x.coordinator) (coordinator_in holders a) (CoordinatorIn c) (λ e. h.0) (λ e. coordinator_held c holders a h.1)

-- ROWS

locks_taken : (c : Config) (locks : Locks) (new : LockHolder) → InFile c new.coordinator → LocksIn c locks.holders → LocksIn c (taken locks new).holders
locks_taken c locks new i h = cond_both (length (in_way_of locks new.attempt new.reads new.writes) == 0) (record locks { holders = with_holder locks.holders new }) locks (λ (x : Locks). LocksIn c x.holders) (λ e. locks_with c locks.holders new i h) (λ e. h)

locks_after : (c : Config) (locks : Locks) (prepared : List Attempt) (new : LockHolder) → InFile c new.coordinator → LocksIn c locks.holders → LocksIn c (after_lock locks prepared new).holders
locks_after c locks prepared new i h =
    let u = after_wounds locks prepared new.attempt new.reads new.writes in
    cond_both (is_tombstoned locks new.attempt || holds locks new.attempt) locks (taken u new) (λ (x : Locks). LocksIn c x.holders)
    (λ e. h) (λ e. locks_taken c u new i (locks_filter c (λ (x : LockHolder). not (is_wounded_by prepared new.attempt new.reads new.writes x)) locks.holders h))

shard_prepares : (c : Config) (sh : Shard) (a : Attempt) (time earliest_end : ℕ) (writes : List (Key × ℕ)) (coordinator : Option ℕ) → CoordinatorIn c coordinator → ShardIn c sh → ShardIn c (prepares sh a time earliest_end writes coordinator)
shard_prepares c sh a time earliest_end writes None i h = h
shard_prepares c sh a time earliest_end writes (Some n) i h = record { locks = h.locks; prepared = prepared_with c sh.prepared _ i h.prepared }

shard_keeps : (c : Config) (sh : Shard) (a : Attempt) (outcome : Outcome) → ShardIn c sh → ShardIn c (keeps_decision sh a outcome)
shard_keeps c sh a outcome h = cond_both (is_some (decision_in sh.decisions a)) sh _ (ShardIn c) (λ e. h) (λ e. record { locks = h.locks; prepared = h.prepared })

shard_commits : (c : Config) (sh : Shard) (a : Attempt) (time : ℕ) (p : Option PreparedWriter) → ShardIn c sh → ShardIn c (tombstones (commits sh a time p) a)
shard_commits c sh a time None h = record { locks = h.locks; prepared = h.prepared }
shard_commits c sh a time (Some p) h = record { locks = locks_filter c (λ (x : LockHolder). not (same_attempt a x.attempt)) sh.locks.holders h.locks; prepared = prepared_filter c (λ (x : PreparedWriter). not (same_attempt a x.attempt)) sh.prepared h.prepared }

shard_releases : (c : Config) (sh : Shard) (a : Attempt) (last : Bool) → ShardIn c sh → ShardIn c (releases_last sh a last)
shard_releases c sh a true h = shard_keeps c sh a Aborted h
shard_releases c sh a false h = h

pub after_in : (c : Config) (sh : Shard) (latest : ℕ) (r : Request) → RequestIn c r → ShardIn c sh → ShardIn c (shard_after sh latest r)
unfolding shard_after
after_in c sh latest (Lock a coordinator reads writes) i h = record { locks = locks_after c sh.locks (prepared_attempts sh.prepared) _ i h.locks; prepared = h.prepared }
after_in c sh latest (Prepare a least earliest_end writes) i h = cond_both (is_some (prepared_of sh.prepared a)) sh _ (ShardIn c) (λ e. h) (λ e. shard_prepares c sh a (prepare_time sh latest least) earliest_end writes (coordinator_in sh.locks.holders a) (coordinator_held c sh.locks.holders a h.locks) h)
after_in c sh latest (Decide a commit time) i h = shard_keeps c sh a (asked_outcome commit time latest) h
after_in c sh latest (Commit a time) i h = shard_commits c sh a time (prepared_of sh.prepared a) h
after_in c sh latest (Abort a) i h = record { locks = locks_filter c (λ (x : LockHolder). not (same_attempt a x.attempt)) sh.locks.holders h.locks; prepared = prepared_filter c (λ (x : PreparedWriter). not (same_attempt a x.attempt)) sh.prepared h.prepared }
after_in c sh latest (Inquire a) i h = h
after_in c sh latest (Release a time last) i h =
    let u = releases sh a time in
    let g : ShardIn c u = record { locks = locks_filter c (λ (x : LockHolder). not (same_attempt a x.attempt)) sh.locks.holders h.locks; prepared = h.prepared } in
    cond_both (can_release sh a) (releases_last u a last) sh (ShardIn c) (λ e. shard_releases c u a last g) (λ e. h)
after_in c sh latest (Snapshot read_time least keys skip) i h = cond_both (is_clear sh keys read_time least skip) _ sh (ShardIn c) (λ e. record { locks = h.locks; prepared = h.prepared }) (λ e. h)
after_in c sh latest (Fix deps) i h = h
after_in c sh latest (Ask key) i h = h
after_in c sh latest (Stamp key) i h = h
after_in c sh latest (Store key value stamp writer) i h = h

-- REPLIES

lock_replies : (c : Config) (sh : Shard) (a : Attempt) (reads writes : List Key) → ShardIn c sh → ReplyIn c (lock_reply sh a reads writes)
lock_replies c sh a reads writes h =
    let other = if holds sh.locks a then reply.Granted (newest_of sh.store reads) else reply.Wait (named_holders (in_way_of sh.locks a reads writes)) in
    cond_both (is_tombstoned sh.locks a) reply.Wounded other (ReplyIn c) (λ e. tt)
    (λ e. cond_both (holds sh.locks a) (reply.Granted (newest_of sh.store reads)) (reply.Wait (named_holders (in_way_of sh.locks a reads writes))) (ReplyIn c) (λ f. tt) (λ f. locks_named c (in_way_of sh.locks a reads writes) (locks_filter c (conflicts a reads writes) sh.locks.holders h.locks)))

prepare_replies : (c : Config) (p : Option PreparedWriter) → ReplyIn c (prepare_reply p)
prepare_replies c None = tt
prepare_replies c (Some p) = tt

decide_replies : (c : Config) (d : Option Outcome) → ReplyIn c (decide_reply d)
decide_replies c None = tt
decide_replies c (Some d) = tt

inquire_replies : (c : Config) (d : Option Outcome) → ReplyIn c (inquire_reply d)
inquire_replies c None = tt
inquire_replies c (Some d) = tt

pub reply_in : (c : Config) (sh : Shard) (latest : ℕ) (r : Request) → RequestIn c r → ShardIn c sh → ReplyIn c (shard_reply sh latest r)
unfolding shard_reply
reply_in c sh latest (Lock a coordinator reads writes) i h = lock_replies c (shard_after sh latest (Lock a coordinator reads writes)) a reads writes (after_in c sh latest (Lock a coordinator reads writes) i h)
reply_in c sh latest (Prepare a least earliest_end writes) i h = prepare_replies c (prepared_of (shard_after sh latest (Prepare a least earliest_end writes)).prepared a)
reply_in c sh latest (Decide a commit time) i h = decide_replies c (decision_in (shard_after sh latest (Decide a commit time)).decisions a)
reply_in c sh latest (Commit a time) i h = tt
reply_in c sh latest (Abort a) i h = tt
reply_in c sh latest (Inquire a) i h = inquire_replies c (decision_in sh.decisions a)
reply_in c sh latest (Release a time last) i h = cond_both (has_attempt (shard_after sh latest (Release a time last)).released a) reply.Released reply.Wounded (ReplyIn c) (λ e. tt) (λ e. tt)
reply_in c sh latest (Snapshot read_time least keys skip) i h =
    cond_both (is_clear sh keys read_time least skip) (reply.Values (versions_at sh.store keys read_time) (named_skipped (passed_by sh.prepared keys read_time least skip))) (reply.Blocked (named_blocking (blocking sh.prepared keys read_time least skip))) (ReplyIn c)
    (λ e. tt) (λ e. prepared_named c (blocking sh.prepared keys read_time least skip) (prepared_filter c _ sh.prepared h.prepared))
reply_in c sh latest (Fix deps) i h = tt
reply_in c sh latest (Ask key) i h = tt
reply_in c sh latest (Stamp key) i h = tt
reply_in c sh latest (Store key value stamp writer) i h = tt
