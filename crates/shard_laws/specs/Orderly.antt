-- Shards that requests have come to in order, and what an attempt that holds locks was shown.
use Rattle.std.specs.Prelude.{◌≡◌, ◌<◌, List, Some, IsTrue}
use Rattle.rss_names.specs.declared.attempt.Attempt.{Attempt}
use Rattle.rss_names.specs.declared.service.Key.{Key}
use Rattle.rss_wire.specs.declared.messages.Request.{Request}
use Rattle.rss_wire.specs.declared.messages.Version.{Version}
use Rattle.rss_tables.specs.Locks.{LockHolder}
use Rattle.rss_tables.specs.Prepared.{PreparedWriter, prepared_of}
use Rattle.rss_tables.specs.Versions.{newest_version, newest_of}
use Rattle.rss_tables.specs.ShardRow.{Shard}
use Rattle.shard_laws.specs.Served.{IsReached}
use Rattle.shard_laws.specs.Entries.{holder_of}
use Rattle.shard_laws.specs.Closed.{IsTimely}
use Rattle.shard_laws.specs.Fitting.{locks_key, WritesAreLocked, IsFitting}

-- a shard that requests have come to in order: each prepared attempt writes what it locked, at a time above
-- the newest version of each key that it locked
pub record IsOrderly (sh : Shard) : Type 0 where
  pub reached : IsReached sh
  pub locked : WritesAreLocked sh
  pub above : (p : PreparedWriter) (h : LockHolder) → prepared_of sh.prepared p.attempt ≡ Some p
      → holder_of sh.locks.holders p.attempt ≡ Some h
      → (key : Key) → IsTrue (locks_key h key) → (newest_version sh.store key).time < p.prepare_time

-- a request that keeps it so
pub record IsInOrder (sh : Shard) (r : Request) : Type 0 where
  pub fits : IsFitting sh r
  pub timely : IsTimely sh r

-- an attempt holds these locks, and the newest versions of what it reads are these
pub record HoldsShown (sh : Shard) (a : Attempt) (reads writes : List Key) (shown : List (Key × Version)) : Type 0 where
  pub holder : LockHolder
  pub there : holder_of sh.locks.holders a ≡ Some holder
  pub reads_same : holder.reads ≡ reads
  pub writes_same : holder.writes ≡ writes
  pub newest : newest_of sh.store reads ≡ shown
