-- A shard as its callers see it, and what room a request needs.
use Rattle.std.specs.Prelude.{ℕ, ◌+◌, ◌^◌, Bool, true, false, ◌&&◌, List, [], length, nat_le, nat_lt, is_some, Option, Some, None}
use Rattle.std.specs.List.{list_all}
use Rattle.rss_names.specs.declared.attempt.Attempt.{Attempt}
use Rattle.rss_names.specs.declared.service.Key.{Key}
use Rattle.rss_wire.specs.declared.messages.Request.{Request}
use Rattle.rss_wire.specs.declared.messages.Request.TheVariants.{Lock, Prepare, Decide, Commit, Abort, Inquire, Release, Snapshot, Fix, Ask, Stamp, Store}
use Rattle.rss_tables.specs.Prepared.{PreparedWriter, prepared_of}
use Rattle.rss_tables.specs.ShardRow.{Shard}
use Rattle.shard_locks.specs.LockView.{has_room as has_lock_room}
use Rattle.shard_prepared.specs.PreparedView.{has_room as has_entry_room}
use Rattle.shard_versions.specs.StoreView.{has_room_in}

-- for how much there is room
pub record ShardRoom : Type 0 where
  pub locks : Option ℕ
  pub prepared : Option ℕ
  pub versions : List Bool
  pub decisions : ℕ
  pub released : ℕ
  pub wounded : ℕ
  pub shown : ℕ
  pub writes : ℕ
  pub blocking : ℕ
  pub skipped : ℕ

-- what the shard keeps, and for how much there is room
pub record ShardView : Type 0 where
  pub shard : Shard
  pub room : ShardRoom

-- what a prepared attempt writes, if it is prepared
abbrev pub writes_of : Option PreparedWriter → List (Key × ℕ)
writes_of None = []
writes_of (Some p) = p.writes

-- whether there is room for one more version of each key written
abbrev pub has_version_room : ShardView → List (Key × ℕ) → Bool
has_version_room view writes = list_all (λ (write : Key × ℕ). has_room_in view.shard.store view.room.versions write.0) writes

-- room to ask for locks
abbrev pub has_room_to_lock : ShardView → ℕ → ℕ → Bool
has_room_to_lock view reads writes =
    has_lock_room view.room.locks (reads + writes) && nat_le (length view.shard.locks.holders) view.room.wounded && nat_le reads view.room.shown

-- room to prepare an attempt
abbrev pub has_room_to_prepare : ShardView → ℕ → Bool
has_room_to_prepare view writes = has_entry_room view.room.prepared writes && nat_le writes view.room.writes

-- room to commit an attempt
abbrev pub has_room_to_commit : ShardView → Attempt → Bool
has_room_to_commit view attempt =
    is_some view.room.locks && has_version_room view (writes_of (prepared_of view.shard.prepared attempt))

-- room to give locks back
abbrev pub has_room_to_release : ShardView → Bool
has_room_to_release view = is_some view.room.locks && nat_lt 0 view.room.decisions && nat_lt 0 view.room.released

-- room for a snapshot
abbrev pub has_room_to_read : ShardView → ℕ → Bool
has_room_to_read view keys =
    nat_le (length view.shard.prepared) view.room.blocking && nat_le (length view.shard.prepared) view.room.skipped && nat_le keys view.room.shown

-- whether there is room for all that a request needs
unfoldable pub has_room : ShardView → Request → Bool
has_room view (Lock attempt coordinator reads writes) = has_room_to_lock view (length reads) (length writes)
has_room view (Prepare attempt least earliest_end writes) = has_room_to_prepare view (length writes)
has_room view (Decide attempt commit time) = nat_lt 0 view.room.decisions
has_room view (Commit attempt commit_time) = has_room_to_commit view attempt
has_room view (Abort attempt) = is_some view.room.locks
has_room view (Inquire attempt) = true
has_room view (Release attempt time last) = has_room_to_release view
has_room view (Snapshot read_time least keys skip) = has_room_to_read view (length keys)
has_room view (Fix deps) = true
has_room view (Ask key) = true
has_room view (Stamp key) = true
has_room view (Store key value stamp writer) = true

-- whether the times that a request names are small enough to be followed by others
unfoldable pub has_small_times : Request → Bool
has_small_times (Lock attempt coordinator reads writes) = true
has_small_times (Prepare attempt least earliest_end writes) = nat_lt least (2 ^ 63)
has_small_times (Decide attempt commit time) = nat_lt time (2 ^ 63)
has_small_times (Commit attempt commit_time) = nat_lt commit_time (2 ^ 63)
has_small_times (Abort attempt) = true
has_small_times (Inquire attempt) = true
has_small_times (Release attempt time last) = nat_lt time (2 ^ 63)
has_small_times (Snapshot read_time least keys skip) = nat_lt read_time (2 ^ 63)
has_small_times (Fix deps) = true
has_small_times (Ask key) = true
has_small_times (Stamp key) = true
has_small_times (Store key value stamp writer) = true
