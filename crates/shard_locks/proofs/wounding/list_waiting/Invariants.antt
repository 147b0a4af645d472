use Rattle.std.proofs.Common.{◌≡◌, ◌++◌, ◌≤◌, drop, length, vec_len, vec_capacity}
use Rattle.shard_locks.specs.Holders.{named_of}
use Rattle.shard_locks.proofs.wounding.list_waiting.Given as goal

-- those listed, with those among the attempts left, are the whole
abbrev pub invariant-loop-attempt : goal.invariant-loop-attempt
invariant-loop-attempt l = record {
  listed : l.waiting.items ++ named_of l.holders.holders (drop l.attempt-index l.in_way) ≡ named_of l.holders.holders l.in_way;
  few : vec_len l.waiting ≤ l.attempt-index;
  room : length l.in_way ≤ vec_capacity l.waiting;
}
