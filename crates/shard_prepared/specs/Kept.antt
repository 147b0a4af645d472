-- What a table of prepared writers keeps beside them, and how it is ordered.
use Rattle.std.specs.Prelude.{◌≡◌, ℕ, ◌+◌, ◌<◌, ◌≤◌, true, IfSome, vec_len, vec_capacity}
use Rattle.rss_tables.specs.Attempts.{attempt_lt}
use Rattle.rss_tables.specs.Prepared.{prepared_attempts}
use Rattle.shard_prepared.specs.declared.table.PreparedTable.TheInside.{Inside}
use Rattle.attempt_index.specs.Ascending.{ascends}
use Rattle.attempt_index.specs.Entries.{IsIndexOf}
use Rattle.attempt_index.specs.KeyIndex.{key_attempt_lt}
use Rattle.shard_prepared.specs.Written.{attempt_of, keys_of}

-- there is memory for one more with a number of writes
pub record HasMemory (t : Inside) (writes : ℕ) : Type 0 where
  pub entry : vec_len t.entries < vec_capacity t.entries
  pub attempt : vec_len t.attempts < vec_capacity t.attempts
  pub pairs : vec_len t.index + writes ≤ vec_capacity t.index

pub record IsKept (t : Inside) : Type 0 where
  pub attempts : t.attempts.items ≡ prepared_attempts t.entries.items
  pub ascending : ascends attempt_lt t.attempts.items ≡ true
  pub index_ascends : ascends key_attempt_lt t.index.items ≡ true
  pub indexed : IsIndexOf attempt_of keys_of t.index.items t.entries.items
  pub room : IfSome t.room (HasMemory t)
