-- From a state of a shard to a later one.
use Rattle.std.specs.Prelude.{◌≡◌, ◌⊎◌, ◌<◌, Some}
use Rattle.rss_tables.specs.Locks.{LockHolder}
use Rattle.rss_tables.specs.Prepared.{PreparedWriter, prepared_of}
use Rattle.rss_tables.specs.ShardRow.{Shard}
use Rattle.shard_laws.specs.Entries.{holder_of}
use Rattle.shard_laws.specs.Locked.{IsGone}

-- a holder holds its locks just as they were, or is done with
abbrev pub HoldsOrIsGone : Shard → LockHolder → Type 0
HoldsOrIsGone later h = (holder_of later.locks.holders h.attempt ≡ Some h) ⊎ IsGone later h.attempt

-- a prepared attempt has its entry just as it was, or is done with
abbrev pub IsPreparedOrGone : Shard → PreparedWriter → Type 0
IsPreparedOrGone later p = (prepared_of later.prepared p.attempt ≡ Some p) ⊎ IsGone later p.attempt

-- an entry of a later state was there before, or its time is above the floor that was
abbrev pub WasThereOrIsAbove : Shard → PreparedWriter → Type 0
WasThereOrIsAbove sh p = (prepared_of sh.prepared p.attempt ≡ Some p) ⊎ (sh.floor < p.prepare_time)
