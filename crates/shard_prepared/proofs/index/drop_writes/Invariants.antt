use Rattle.std.proofs.Common.{◌≡◌, ◌≤◌, drop, true, vec_len, vec_capacity}
use Rattle.attempt_index.specs.Ascending.{ascends}
use Rattle.attempt_index.specs.KeyIndex.{key_attempt_lt, without_keys}
use Rattle.shard_prepared.specs.Written.{written}
use Rattle.shard_prepared.proofs.index.drop_writes.Given as goal

-- the pairs so far, without those of the writes left, are those to be left
abbrev pub invariant-loop-write : goal.invariant-loop-write
invariant-loop-write l = record {
  left : without_keys l.index.items l.attempt (written (drop l.write-index l.writer.writes)) ≡ without_keys l.fn.index.items l.attempt (written l.writer.writes);
  ascending : ascends key_attempt_lt l.index.items ≡ true;
  few : vec_len l.index ≤ vec_len l.fn.index;
  room : vec_capacity l.fn.index ≤ vec_capacity l.index;
}
