-- A shard of a transaction service: what it keeps, and what it does with a request.
use Rattle.std.specs.Prelude.{ℕ, ◌+◌, max, Bool, true, false, ◌&&◌, ◌||◌, not, ◌==◌, List, [], ◌∷◌, ◌++◌, length, is_some, nat_le, Option, Some, None, if◌then◌else◌}
use Rattle.std.specs.List.{list_any}
use Rattle.rss_names.specs.declared.attempt.Attempt.{Attempt}
use Rattle.rss_names.specs.declared.service.Key.{Key}
use Rattle.rss_wire.specs.declared.messages.Outcome.{Outcome}
use Rattle.rss_wire.specs.declared.messages.Outcome.TheVariants.{Committed, Aborted}
use Rattle.rss_wire.specs.declared.messages.Version.{Version}
use Rattle.rss_wire.specs.declared.messages.Request.{Request}
use Rattle.rss_wire.specs.declared.messages.Request.TheVariants.{Lock, Prepare, Decide, Commit, Abort, Inquire, Release, Snapshot, Fix, Ask, Stamp, Store}
use Rattle.rss_wire.specs.declared.messages.Reply.{Reply}
use Rattle.rss_wire.specs.declared.messages.Reply.TheVariants as reply
use Rattle.rss_tables.specs.Attempts.{same_attempt, has_attempt, with_attempt}
use Rattle.rss_tables.specs.Locks.{LockHolder, Locks, no_locks, holds, is_tombstoned, coordinator_in, after_lock, in_way_of, without_holder, with_tomb, named_holders}
use Rattle.rss_tables.specs.Versions.{KeyVersions, unwritten, versions_of, with_version, newest_of, versions_at}
use Rattle.rss_tables.specs.Prepared.{PreparedWriter, prepared_of, prepared_attempts, with_prepared, without_prepared, blocking, passed_by, named_blocking, named_skipped}

-- a shard: its locks, its prepared writers, the decisions of attempts that it coordinates, the
-- versions of its keys, the greatest time at which it was read or written, and the attempts that
-- gave their locks back because their guard failed
pub record Shard : Type 0 where
  pub locks : Locks
  pub prepared : List PreparedWriter
  pub decisions : List (Attempt × Outcome)
  pub store : List KeyVersions
  pub floor : ℕ
  pub released : List Attempt

-- a shard that has served nothing yet
abbrev pub opening_shard : List Key → Shard
opening_shard keys = record {
  locks = no_locks;
  prepared = [];
  decisions = [];
  store = unwritten keys;
  floor = 0;
  released = [];
}

-- the decision kept for an attempt
abbrev pub decision_in : List (Attempt × Outcome) → Attempt → Option Outcome
decision_in [] attempt = None
decision_in (d ∷ decisions) attempt = if same_attempt attempt d.0 then Some d.1 else decision_in decisions attempt

-- the first decision of an attempt is kept, and no later one
abbrev pub keeps_decision : Shard → Attempt → Outcome → Shard
keeps_decision sh attempt outcome =
    if is_some (decision_in sh.decisions attempt) then sh else record sh { decisions = sh.decisions ++ (attempt, outcome) ∷ [] }

-- the time at which an attempt is prepared that asks now
abbrev pub prepare_time : Shard → ℕ → ℕ → ℕ
prepare_time sh latest least = max latest (max (sh.floor + 1) (least + 1))

-- an attempt is prepared where it holds its locks
abbrev pub prepares : Shard → Attempt → ℕ → ℕ → List (Key × ℕ) → Option ℕ → Shard
prepares sh attempt time earliest_end writes None = sh
prepares sh attempt time earliest_end writes (Some coordinator) = record sh {
  prepared = with_prepared sh.prepared record {
    attempt = attempt;
    coordinator = coordinator;
    prepare_time = time;
    earliest_end = earliest_end;
    writes = writes;
  };
}

-- the outcome that a request to decide asks for
abbrev pub asked_outcome : Bool → ℕ → ℕ → Outcome
asked_outcome true time latest = Committed (max time latest)
asked_outcome false time latest = Aborted

-- whether a key has a version at a time or later
abbrev pub written_since : List Version → ℕ → Bool
written_since versions time = list_any (λ (v : Version). nat_le time v.time) versions

-- the writes of a call become versions at its commit time, but for keys that have a later one
abbrev pub applied : List KeyVersions → ℕ → ℕ → List (Key × ℕ) → List KeyVersions
applied store call time [] = store
applied store call time (write ∷ writes) =
    applied
    (if written_since (versions_of store write.0) time
    then store
    else with_version store write.0 record { value = write.1; time = time; writer = call })
    call time writes

-- a prepared attempt is committed: its writes are versions, and its locks are free
abbrev pub commits : Shard → Attempt → ℕ → Option PreparedWriter → Shard
commits sh attempt time None = sh
commits sh attempt time (Some p) = record sh {
  locks = without_holder sh.locks attempt;
  prepared = without_prepared sh.prepared attempt;
  store = applied sh.store attempt.call time p.writes;
  floor = max sh.floor time;
}

-- an attempt is tombstoned
abbrev pub tombstones : Shard → Attempt → Shard
tombstones sh attempt = record sh { locks = with_tomb sh.locks attempt }

-- an attempt is aborted: its locks are free
abbrev pub aborts : Shard → Attempt → Shard
aborts sh attempt = record sh {
  locks = with_tomb (without_holder sh.locks attempt) attempt;
  prepared = without_prepared sh.prepared attempt;
}

-- whether an attempt can give its locks back: it holds them and is not prepared
abbrev pub can_release : Shard → Attempt → Bool
can_release sh attempt =
    not (has_attempt sh.released attempt) && holds sh.locks attempt && not (is_some (prepared_of sh.prepared attempt))

-- the locks of an attempt whose guard failed are given back at a time
abbrev pub releases : Shard → Attempt → ℕ → Shard
releases sh attempt time = record sh {
  locks = with_tomb (without_holder sh.locks attempt) attempt;
  floor = max sh.floor time;
  released = with_attempt sh.released attempt;
}

-- at the coordinator, which comes last, the attempt counts as aborted from then on
abbrev pub releases_last : Shard → Attempt → Bool → Shard
releases_last sh attempt true = keeps_decision sh attempt Aborted
releases_last sh attempt false = sh

-- whether nothing blocks a snapshot
abbrev pub is_clear : Shard → List Key → ℕ → ℕ → Bool → Bool
is_clear sh keys read_time least skip = length (blocking sh.prepared keys read_time least skip) == 0

-- what a shard keeps after a request, where the reading ends at `latest`; it serves no request of a replica
unfoldable pub shard_after : Shard → ℕ → Request → Shard
shard_after sh latest (Lock attempt coordinator reads writes) = record sh {
  locks = after_lock sh.locks (prepared_attempts sh.prepared) record {
    attempt = attempt;
    coordinator = coordinator;
    reads = reads;
    writes = writes;
  };
}
shard_after sh latest (Prepare attempt least earliest_end writes) =
    if is_some (prepared_of sh.prepared attempt) then
    sh
    else
    prepares sh attempt (prepare_time sh latest least) earliest_end writes (coordinator_in sh.locks.holders attempt)
shard_after sh latest (Decide attempt commit time) = keeps_decision sh attempt (asked_outcome commit time latest)
shard_after sh latest (Commit attempt commit_time) =
    tombstones (commits sh attempt commit_time (prepared_of sh.prepared attempt)) attempt
shard_after sh latest (Abort attempt) = aborts sh attempt
shard_after sh latest (Inquire attempt) = sh
shard_after sh latest (Release attempt time last) =
    if can_release sh attempt then releases_last (releases sh attempt time) attempt last else sh
shard_after sh latest (Snapshot read_time least keys skip) =
    if is_clear sh keys read_time least skip then record sh { floor = max sh.floor read_time } else sh
shard_after sh latest (Fix deps) = sh
shard_after sh latest (Ask key) = sh
shard_after sh latest (Stamp key) = sh
shard_after sh latest (Store key value stamp writer) = sh

-- what a shard replies to a request for locks, once it has served it
abbrev pub lock_reply : Shard → Attempt → List Key → List Key → Reply
lock_reply sh attempt reads writes =
    if is_tombstoned sh.locks attempt then
    reply.Wounded
    else
    (if holds sh.locks attempt then
    reply.Granted (newest_of sh.store reads)
    else
    reply.Wait (named_holders (in_way_of sh.locks attempt reads writes)))

-- what it replies to a request to prepare, once it has served it
abbrev pub prepare_reply : Option PreparedWriter → Reply
prepare_reply None = reply.Wounded
prepare_reply (Some p) = reply.Prepared p.prepare_time

-- what it replies to a request to decide, once it has served it
abbrev pub decide_reply : Option Outcome → Reply
decide_reply None = reply.Open
decide_reply (Some outcome) = reply.Decided outcome

-- what it replies to who asks for a decision
abbrev pub inquire_reply : Option Outcome → Reply
inquire_reply None = reply.Open
inquire_reply (Some outcome) = reply.Outcome outcome

-- what a shard replies to a request, by what it kept before and keeps after it
unfoldable pub shard_reply : Shard → ℕ → Request → Reply
shard_reply sh latest (Lock attempt coordinator reads writes) =
    lock_reply (shard_after sh latest (Lock attempt coordinator reads writes)) attempt reads writes
shard_reply sh latest (Prepare attempt least earliest_end writes) =
    prepare_reply (prepared_of (shard_after sh latest (Prepare attempt least earliest_end writes)).prepared attempt)
shard_reply sh latest (Decide attempt commit time) =
    decide_reply (decision_in (shard_after sh latest (Decide attempt commit time)).decisions attempt)
shard_reply sh latest (Commit attempt commit_time) = reply.Done
shard_reply sh latest (Abort attempt) = reply.Done
shard_reply sh latest (Inquire attempt) = inquire_reply (decision_in sh.decisions attempt)
shard_reply sh latest (Release attempt time last) =
    if has_attempt (shard_after sh latest (Release attempt time last)).released attempt then reply.Released else reply.Wounded
shard_reply sh latest (Snapshot read_time least keys skip) =
    if is_clear sh keys read_time least skip then
    reply.Values (versions_at sh.store keys read_time) (named_skipped (passed_by sh.prepared keys read_time least skip))
    else
    reply.Blocked (named_blocking (blocking sh.prepared keys read_time least skip))
shard_reply sh latest (Fix deps) = reply.Done
shard_reply sh latest (Ask key) = reply.Done
shard_reply sh latest (Stamp key) = reply.Done
shard_reply sh latest (Store key value stamp writer) = reply.Done
