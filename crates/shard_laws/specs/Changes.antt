-- What one request can change of who holds locks, who is prepared, and what is decided, and why.
use Rattle.std.specs.Prelude.{◌≡◌, ◌⊎◌, ℕ, ◌<◌, ◌≤◌, max, Bool, true, false, Some, None, IsTrue, IsFalse}
use Rattle.rss_names.specs.declared.attempt.Attempt.{Attempt}
use Rattle.rss_wire.specs.declared.messages.Outcome.{Outcome}
use Rattle.rss_wire.specs.declared.messages.Outcome.TheVariants.{Committed, Aborted}
use Rattle.rss_wire.specs.declared.messages.Request.{Request}
use Rattle.rss_wire.specs.declared.messages.Request.TheVariants.{Lock, Prepare, Decide, Commit, Abort, Inquire, Release, Snapshot, Fix, Ask, Stamp, Store}
use Rattle.rss_tables.specs.Attempts.{same_attempt, is_younger}
use Rattle.rss_tables.specs.Locks.{LockHolder, in_the_way, is_tombstoned}
use Rattle.rss_tables.specs.Prepared.{PreparedWriter, prepared_of}
use Rattle.rss_tables.specs.ShardRow.{Shard}
use Rattle.shard_laws.specs.Entries.{holder_of}
use Rattle.shard_laws.specs.Locked.{IsGone}

-- whether a request is the commit or the abort of an attempt
abbrev pub settles : Request → Attempt → Bool
settles (Lock a coordinator reads writes) attempt = false
settles (Prepare a least earliest_end writes) attempt = false
settles (Decide a commit time) attempt = false
settles (Commit a time) attempt = same_attempt a attempt
settles (Abort a) attempt = same_attempt a attempt
settles (Inquire a) attempt = false
settles (Release a time last) attempt = false
settles (Snapshot read_time least keys skip) attempt = false
settles (Fix deps) attempt = false
settles (Ask key) attempt = false
settles (Stamp key) attempt = false
settles (Store key value stamp writer) attempt = false

-- whether a request frees the locks of an attempt: its commit, its abort or its release
abbrev pub frees : Request → Attempt → Bool
frees (Lock a coordinator reads writes) attempt = false
frees (Prepare a least earliest_end writes) attempt = false
frees (Decide a commit time) attempt = false
frees (Commit a time) attempt = same_attempt a attempt
frees (Abort a) attempt = same_attempt a attempt
frees (Inquire a) attempt = false
frees (Release a time last) attempt = same_attempt a attempt
frees (Snapshot read_time least keys skip) attempt = false
frees (Fix deps) attempt = false
frees (Ask key) attempt = false
frees (Stamp key) attempt = false
frees (Store key value stamp writer) attempt = false

-- a holder is wounded by a request: an older attempt asks for locks in its way, and it is not prepared
pub record IsWounded (sh : Shard) (r : Request) (h : LockHolder) : Type 0 where
  pub by : LockHolder
  pub asks : r ≡ Lock by.attempt by.coordinator by.reads by.writes
  pub older : IsTrue (is_younger h.attempt by.attempt)
  pub in_its_way : IsTrue (in_the_way by.reads by.writes h.reads h.writes)
  pub unprepared : prepared_of sh.prepared h.attempt ≡ None

-- a holder loses its locks by a request, and is done with afterwards
pub record LosesLocks (sh after : Shard) (r : Request) (h : LockHolder) : Type 0 where
  pub gone : IsGone after h.attempt
  pub reason : IsWounded sh r h ⊎ IsTrue (frees r h.attempt)

-- a holder keeps its locks just as they are, or loses them
abbrev pub KeepsOrLoses : Shard → Shard → Request → LockHolder → Type 0
KeepsOrLoses sh after r h = (holder_of after.locks.holders h.attempt ≡ Some h) ⊎ LosesLocks sh after r h

-- locks are granted by the request: it asks for just these, and its attempt neither held nor was tombstoned
pub record IsGranted (sh : Shard) (r : Request) (h : LockHolder) : Type 0 where
  pub asks : r ≡ Lock h.attempt h.coordinator h.reads h.writes
  pub untombstoned : IsFalse (is_tombstoned sh.locks h.attempt)
  pub free : holder_of sh.locks.holders h.attempt ≡ None

-- a prepared attempt keeps its entry just as it is, or is settled by the request and done with
pub record IsSettled (after : Shard) (r : Request) (attempt : Attempt) : Type 0 where
  pub gone : IsGone after attempt
  pub reason : IsTrue (settles r attempt)

-- an attempt is prepared by the request: its time is above the floor and above what the request has
-- seen, and is not before the end of the reading
pub record IsPreparedBy (sh : Shard) (latest : ℕ) (r : Request) (p : PreparedWriter) : Type 0 where
  pub least : ℕ
  pub asks : r ≡ Prepare p.attempt least p.earliest_end p.writes
  pub new : prepared_of sh.prepared p.attempt ≡ None
  pub above_floor : sh.floor < p.prepare_time
  pub above_least : least < p.prepare_time
  pub not_before : latest ≤ p.prepare_time

-- an attempt is decided by the request. A commit is at the time asked for or at the end of the reading,
-- whichever is later; an abort is asked for, or comes with the last release
pub record IsCommittedBy (latest : ℕ) (r : Request) (attempt : Attempt) (time : ℕ) : Type 0 where
  pub asked : ℕ
  pub asks : r ≡ Decide attempt true asked
  pub at : time ≡ max asked latest

pub record IsReleasedBy (r : Request) (attempt : Attempt) : Type 0 where
  pub time : ℕ
  pub asks : r ≡ Release attempt time true

pub record IsAbortedBy (r : Request) (attempt : Attempt) : Type 0 where
  pub time : ℕ
  pub asks : r ≡ Decide attempt false time

abbrev pub IsDecidedBy : ℕ → Request → Attempt → Outcome → Type 0
IsDecidedBy latest r attempt (Committed time) = IsCommittedBy latest r attempt time
IsDecidedBy latest r attempt Aborted = IsAbortedBy r attempt ⊎ IsReleasedBy r attempt
