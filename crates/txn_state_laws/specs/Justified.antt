-- Why each request to a shard was sent.
use Rattle.std.specs.Prelude.{◌≡◌, ◌⊎◌, ⊤, ℕ, ◌≤◌, Bool, true, false, List, Some, IsTrue}
use Rattle.rss_names.specs.declared.attempt.Attempt.{Attempt}
use Rattle.rss_names.specs.declared.service.Key.{Key}
use Rattle.rss_wire.specs.Messages.{message_at}
use Rattle.rss_wire.specs.declared.messages.Outcome.{Outcome}
use Rattle.rss_wire.specs.declared.messages.Outcome.TheVariants.{Committed, Aborted}
use Rattle.rss_wire.specs.declared.messages.Request.{Request}
use Rattle.rss_wire.specs.declared.messages.Request.TheVariants.{Lock, Prepare, Decide, Commit, Abort, Inquire, Release, Snapshot, Fix, Ask, Stamp, Store}
use Rattle.rss_tables.specs.Lines.{Line, coordinator_of}
use Rattle.rss_tables.specs.Locks.{has_key}
use Rattle.rss_tables.specs.ShardRow.{decision_in}
use Rattle.rss_tables.specs.SnapshotSession.{SnapSession}
use Rattle.rss_tables.specs.TransactionSession.{TxnSession, computed, writes_on, greatest_prepared}
use Rattle.rss_tables.specs.declared.phases.SnapPhase.TheVariants.{First}
use Rattle.rss_tables.specs.declared.phases.TxnPhase.{TxnPhase}
use Rattle.rss_tables.specs.declared.phases.TxnPhase.TheVariants as phase
use Rattle.rss_machine.specs.State.{State, owner_at, shard_at}
use Rattle.rss_machine.specs.declared.session.Session.TheVariants as session
use Rattle.shard_laws.specs.Fitting.{is_written}
use Rattle.session_laws.specs.Frames.{IsLine}
use Rattle.shard_event_laws.specs.Events.{WasAsked}
use Rattle.txn_state_laws.specs.Framed.{OfAttempt, IsLineOf}
use Rattle.txn_state_laws.specs.Told.{freeing_time, snap_time}

-- the phases of an attempt that asked to be prepared, and of one that asked to be committed
abbrev pub may_be_prepared : TxnPhase → Bool
may_be_prepared phase.Locking = false
may_be_prepared phase.Preparing = true
may_be_prepared (phase.Freeing time) = false
may_be_prepared (phase.FreeingLast time) = false
may_be_prepared (phase.Deciding time) = true
may_be_prepared phase.Undoing = true
may_be_prepared (phase.Waiting time) = true
may_be_prepared (phase.Committed time) = true
may_be_prepared (phase.Failed time) = false

abbrev pub may_be_committed : TxnPhase → Bool
may_be_committed phase.Locking = false
may_be_committed phase.Preparing = false
may_be_committed (phase.Freeing time) = false
may_be_committed (phase.FreeingLast time) = false
may_be_committed (phase.Deciding time) = true
may_be_committed phase.Undoing = false
may_be_committed (phase.Waiting time) = true
may_be_committed (phase.Committed time) = true
may_be_committed (phase.Failed time) = false

-- a decision is kept for an attempt at its coordinator
pub record Kept (s : State) (a : Attempt) (outcome : Outcome) : Type 0 where
  pub txn : TxnSession
  pub of : OfAttempt s a txn
  pub kept : decision_in (shard_at s (coordinator_of txn.lines)).decisions a ≡ Some outcome

-- the locks of an attempt on a shard are those of its line
pub record LockIs (s : State) (shard : ℕ) (a : Attempt) (coordinator : ℕ) (reads writes : List Key) : Type 0 where
  pub txn : TxnSession
  pub of : OfAttempt s a txn
  pub line : Line
  pub is_line : IsLineOf txn shard line
  pub coordinator_is : coordinator ≡ coordinator_of txn.lines
  pub reads_are : reads ≡ line.reads
  pub writes_are : writes ≡ line.writes

-- what the present attempt of a transaction asks to be prepared
pub record PreparesNow (x : TxnSession) (l : Line) (earliest_end : ℕ) (writes : List (Key × ℕ)) : Type 0 where
  pub may : may_be_prepared x.phase ≡ true
  pub ends : earliest_end ≡ x.earliest_end
  pub writes_are : writes ≡ writes_on l (computed x)

-- an attempt asks to prepare writes of keys that its line locks, with the least time of its call
pub record PrepareIs (s : State) (shard : ℕ) (a : Attempt) (least earliest_end : ℕ) (writes : List (Key × ℕ)) : Type 0 where
  pub txn : TxnSession
  pub of : OfAttempt s a txn
  pub line : Line
  pub is_line : IsLineOf txn shard line
  pub least_is : least ≡ txn.least
  pub fits : (key : Key) → IsTrue (is_written writes key) → IsTrue (has_key line.writes key)
  pub now : a.k ≡ txn.k → PreparesNow txn line earliest_end writes

-- the coordinator is asked to decide; to commit, once all shards are prepared
pub record DecideIs (s : State) (shard : ℕ) (a : Attempt) (commit : Bool) (time : ℕ) : Type 0 where
  pub txn : TxnSession
  pub of : OfAttempt s a txn
  pub at : shard ≡ coordinator_of txn.lines
  pub line : Line
  pub is_line : IsLineOf txn shard line
  pub now : commit ≡ true → a.k ≡ txn.k → (may_be_committed txn.phase ≡ true) × (time ≡ greatest_prepared txn.lines)

-- an attempt gives its locks back at a time, last at the coordinator
pub record ReleaseIs (s : State) (shard : ℕ) (a : Attempt) (time : ℕ) (last : Bool) : Type 0 where
  pub txn : TxnSession
  pub of : OfAttempt s a txn
  pub line : Line
  pub is_line : IsLineOf txn shard line
  pub at : last ≡ true → shard ≡ coordinator_of txn.lines
  pub now : a.k ≡ txn.k → (freeing_time txn.phase ≡ Some time) ⊎ (txn.phase ≡ phase.Undoing)

-- a snapshot reads the keys of a line: first at a read time, where writers may be passed by, then at its own time
pub record SnapshotIs (s : State) (o shard read_time least : ℕ) (keys : List Key) (skip : Bool) : Type 0 where
  pub snap : SnapSession
  pub under_way : (owner_at s o).session ≡ session.Snapshot snap
  pub line : Line
  pub is_line : IsLine snap.lines line
  pub on : line.shard ≡ shard
  pub least_is : least ≡ snap.least
  pub keys_are : keys ≡ line.reads
  pub first : skip ≡ true → (snap.phase ≡ First read_time) ⊎ ((time : ℕ) × (snap_time snap.phase ≡ Some time))
  pub second : skip ≡ false → snap_time snap.phase ≡ Some read_time

-- why a request of an owner to a shard was sent
abbrev pub IsJust : State → ℕ → ℕ → Request → Type 0
IsJust s o shard (Lock a coordinator reads writes) = LockIs s shard a coordinator reads writes
IsJust s o shard (Prepare a least earliest_end writes) = PrepareIs s shard a least earliest_end writes
IsJust s o shard (Decide a commit time) = DecideIs s shard a commit time
IsJust s o shard (Commit a time) = Kept s a (Committed time)
IsJust s o shard (Abort a) = Kept s a Aborted
IsJust s o shard (Inquire a) = ⊤
IsJust s o shard (Release a time last) = ReleaseIs s shard a time last
IsJust s o shard (Snapshot read_time least keys skip) = SnapshotIs s o shard read_time least keys skip
IsJust s o shard (Fix deps) = ⊤
IsJust s o shard (Ask key) = ⊤
IsJust s o shard (Stamp key) = ⊤
IsJust s o shard (Store key value stamp writer) = ⊤

pub record AllJust (s : State) : Type 0 where
  pub each : (m shard : ℕ) (q : Request) → WasAsked s m shard q → IsJust s (message_at s.net m).envelope.owner shard q
