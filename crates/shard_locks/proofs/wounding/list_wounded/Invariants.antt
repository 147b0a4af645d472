use Rattle.std.proofs.Common.{◌≡◌, ◌++◌, ◌≤◌, drop, filter, length, vec_len, vec_capacity}
use Rattle.shard_locks.specs.Holders.{is_open}
use Rattle.shard_locks.proofs.wounding.list_wounded.Given as goal

-- those listed, with those among the attempts left, are the whole
abbrev pub invariant-loop-attempt : goal.invariant-loop-attempt
invariant-loop-attempt l = record {
  listed : l.wounded.items ++ filter (is_open l.prepared l.asking) (drop l.attempt-index l.in_way) ≡ filter (is_open l.prepared l.asking) l.in_way;
  few : vec_len l.wounded ≤ l.attempt-index;
  room : length l.in_way ≤ vec_capacity l.wounded;
}
