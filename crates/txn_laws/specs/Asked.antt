-- What is new at a shard in a later state of a run was asked for since.
use Rattle.std.specs.Prelude.{◌≡◌, ◌⊎◌, ℕ, ◌<◌, ◌≤◌, true, Some}
use Rattle.rss_names.specs.declared.attempt.Attempt.{Attempt}
use Rattle.rss_wire.specs.declared.messages.Outcome.TheVariants.{Committed}
use Rattle.rss_wire.specs.declared.messages.Request.{Request}
use Rattle.rss_wire.specs.declared.messages.Request.TheVariants.{Lock, Prepare, Decide}
use Rattle.rss_tables.specs.Locks.{LockHolder}
use Rattle.rss_tables.specs.Prepared.{PreparedWriter, prepared_of}
use Rattle.rss_tables.specs.ShardRow.{decision_in}
use Rattle.rss_machine.specs.State.{State, shard_at}
use Rattle.shard_laws.specs.Entries.{holder_of}
use Rattle.txn_laws.specs.Serving.{WasSentTo}

-- locks were asked for
pub record LocksAsked (t : State) (shard moment : ℕ) (h : LockHolder) : Type 0 where
  pub request : ℕ × Request
  pub sent : WasSentTo t shard moment request
  pub asks : request.1 ≡ Lock h.attempt h.coordinator h.reads h.writes

-- an attempt was asked to prepare: its time is above what the request has seen and not before the moment
pub record PrepareAsked (t : State) (shard moment : ℕ) (p : PreparedWriter) : Type 0 where
  pub request : ℕ × Request
  pub sent : WasSentTo t shard moment request
  pub least : ℕ
  pub asks : request.1 ≡ Prepare p.attempt least p.earliest_end p.writes
  pub above_least : least < p.prepare_time
  pub not_before : moment ≤ p.prepare_time

-- a commit was asked for: its time is at least what was asked, and not before the moment
pub record CommitAsked (t : State) (shard moment : ℕ) (a : Attempt) (time : ℕ) : Type 0 where
  pub request : ℕ × Request
  pub sent : WasSentTo t shard moment request
  pub asked : ℕ
  pub asks : request.1 ≡ Decide a true asked
  pub at_least : asked ≤ time
  pub not_before : moment ≤ time

-- from one state to a later one, at a shard
pub record NewWasAsked (s t : State) (shard : ℕ) : Type 0 where
  pub held : (h : LockHolder) → holder_of (shard_at t shard).locks.holders h.attempt ≡ Some h
      → (holder_of (shard_at s shard).locks.holders h.attempt ≡ Some h) ⊎ LocksAsked t shard s.moment h
  pub prepared : (p : PreparedWriter) → prepared_of (shard_at t shard).prepared p.attempt ≡ Some p
      → (prepared_of (shard_at s shard).prepared p.attempt ≡ Some p) ⊎ PrepareAsked t shard s.moment p
  pub committed : (a : Attempt) (time : ℕ) → decision_in (shard_at t shard).decisions a ≡ Some (Committed time)
      → (decision_in (shard_at s shard).decisions a ≡ Some (Committed time)) ⊎ CommitAsked t shard s.moment a time
