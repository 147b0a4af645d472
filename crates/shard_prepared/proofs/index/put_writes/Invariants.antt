use Rattle.std.proofs.Common.{◌≡◌, ◌+◌, ◌≤◌, drop, true, vec_len, vec_capacity}
use Rattle.attempt_index.specs.Ascending.{ascends}
use Rattle.attempt_index.specs.KeyIndex.{key_attempt_lt, with_keys}
use Rattle.shard_prepared.specs.Written.{written}
use Rattle.shard_prepared.proofs.index.put_writes.Given as goal

-- the pairs so far, with those of the writes left, are the whole
abbrev pub invariant-loop-write : goal.invariant-loop-write
invariant-loop-write l = record {
  whole : with_keys l.index.items l.attempt (written (drop l.write-index l.writer.writes)) ≡ with_keys l.fn.index.items l.attempt (written l.writer.writes);
  ascending : ascends key_attempt_lt l.index.items ≡ true;
  few : vec_len l.index ≤ vec_len l.fn.index + l.write-index;
  room : vec_capacity l.fn.index ≤ vec_capacity l.index;
}
