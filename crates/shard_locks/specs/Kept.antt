-- What a lock table keeps beside its locks: empty lists, and the memory that its room promises.
use Rattle.std.specs.Prelude.{◌≡◌, ℕ, ◌≤◌, length, Some, IfSome, vec_len, vec_capacity}
use Rattle.indexmap.specs.IndexSet.{spare}
use Rattle.shard_locks.specs.declared.table.LockTable.TheInside.{Inside}

-- there is memory for a request over a number of keys
pub record HasMemory (t : Inside) (keys : ℕ) : Type 0 where
  pub holder : t.holders.room ≡ Some keys
  pub tomb : 1 ≤ spare t.tombs
  pub tombs : length t.holders.holders ≤ spare t.tombs
  pub reads : keys ≤ vec_capacity t.reads
  pub writes : keys ≤ vec_capacity t.writes
  pub found : length t.holders.holders ≤ vec_capacity t.found
  pub waiting : length t.holders.holders ≤ vec_capacity t.waiting

pub record IsKept (t : Inside) : Type 0 where
  pub no_reads : vec_len t.reads ≡ 0
  pub no_writes : vec_len t.writes ≡ 0
  pub none_waiting : vec_len t.waiting ≡ 0
  pub room : IfSome t.room (HasMemory t)
