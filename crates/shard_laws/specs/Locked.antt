-- What the locks of a shard keep apart, and which attempts are done with.
use Rattle.std.specs.Prelude.{◌≡◌, ℕ, Some, None, IsTrue, IsFalse}
use Rattle.rss_names.specs.declared.attempt.Attempt.{Attempt}
use Rattle.rss_names.specs.declared.service.Key.{Key}
use Rattle.rss_tables.specs.Locks.{LockHolder, has_key, is_tombstoned}
use Rattle.rss_tables.specs.Prepared.{prepared_of}
use Rattle.rss_tables.specs.ShardRow.{Shard}
use Rattle.shard_laws.specs.Entries.{holder_of}

-- a key that one of two holders writes is neither written nor read by the other
pub record AreExcluded (h g : LockHolder) : Type 0 where
  pub first : (key : Key) → IsTrue (has_key h.writes key) → IsFalse (has_key g.writes key) × IsFalse (has_key g.reads key)
  pub second : (key : Key) → IsTrue (has_key g.writes key) → IsFalse (has_key h.writes key) × IsFalse (has_key h.reads key)

-- an attempt holds locks, and named this coordinator
pub record HoldsFor (sh : Shard) (attempt : Attempt) (coordinator : ℕ) : Type 0 where
  pub holder : LockHolder
  pub holds : holder_of sh.locks.holders attempt ≡ Some holder
  pub same : holder.coordinator ≡ coordinator

-- an attempt is done with at a shard: it is tombstoned, holds no locks, and is not prepared
pub record IsGone (sh : Shard) (attempt : Attempt) : Type 0 where
  pub tombstoned : IsTrue (is_tombstoned sh.locks attempt)
  pub free : holder_of sh.locks.holders attempt ≡ None
  pub unprepared : prepared_of sh.prepared attempt ≡ None
