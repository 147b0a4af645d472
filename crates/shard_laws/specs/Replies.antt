-- What a shard's replies say of it.
use Rattle.std.specs.Prelude.{◌≡◌, ◌⊎◌, ◌<◌, List, length, is_some, Some, IsTrue, IsFalse}
use Rattle.rss_names.specs.declared.attempt.Attempt.{Attempt}
use Rattle.rss_names.specs.declared.service.Key.{Key}
use Rattle.rss_wire.specs.declared.messages.Holder.{Holder}
use Rattle.rss_wire.specs.declared.messages.Version.{Version}
use Rattle.rss_tables.specs.Attempts.{is_younger}
use Rattle.rss_tables.specs.Locks.{LockHolder, conflicts, in_way_of, named_holders}
use Rattle.rss_tables.specs.Prepared.{prepared_of}
use Rattle.rss_tables.specs.Versions.{newest_of}
use Rattle.rss_tables.specs.ShardRow.{Shard}
use Rattle.shard_laws.specs.Entries.{holder_of}

-- an attempt that waits is told of exactly those in its way that are left, and of one at least; each of
-- them is older than it, or prepared
pub record WaitsFor (sh after : Shard) (attempt : Attempt) (reads writes : List Key) (holders : List Holder) : Type 0 where
  pub exactly : holders ≡ named_holders (in_way_of after.locks attempt reads writes)
  pub some : 0 < length holders
  pub left : (h : LockHolder) → holder_of after.locks.holders h.attempt ≡ Some h → IsTrue (conflicts attempt reads writes h)
      → IsFalse (is_younger h.attempt attempt) ⊎ IsTrue (is_some (prepared_of sh.prepared h.attempt))

-- an attempt that is granted its locks holds some, and is shown the newest version of each key that it asks to read
pub record IsShown (sh after : Shard) (attempt : Attempt) (reads : List Key) (shown : List (Key × Version)) : Type 0 where
  pub holder : LockHolder
  pub holds : holder_of after.locks.holders attempt ≡ Some holder
  pub newest : shown ≡ newest_of sh.store reads
