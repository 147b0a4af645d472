use Rattle.std.proofs.Common.{◌≡◌, ◌++◌, ◌≤◌, drop, length, vec_len, vec_capacity}
use Rattle.rss_tables.specs.Versions.{versions_at}
use Rattle.txn_shard.proofs.lists.versions_at_time.Given as goal

-- the versions listed, with those of the keys left, are the whole
abbrev pub invariant-loop-key : goal.invariant-loop-key
invariant-loop-key l = record {
  listed : l.list.items ++ versions_at l.store.store (drop l.key-index l.keys) l.time ≡ versions_at l.store.store l.keys l.time;
  few : vec_len l.list ≤ l.key-index;
  room : length l.keys ≤ vec_capacity l.list;
}
