use Rattle.std.proofs.Common.{◌≡◌, ◌≤◌, drop, true, vec_len, vec_capacity}
use Rattle.attempt_index.specs.Ascending.{ascends}
use Rattle.attempt_index.specs.KeyIndex.{key_attempt_lt, without_keys}
use Rattle.attempt_index.proofs.index.drop_keys.Given as goal

-- the pairs so far, without those of the keys left, are those to be left
abbrev pub invariant-loop-key : goal.invariant-loop-key
invariant-loop-key l = record {
  left : without_keys l.index.items l.attempt (drop l.key-index l.keys) ≡ without_keys l.fn.index.items l.attempt l.keys;
  ascending : ascends key_attempt_lt l.index.items ≡ true;
  few : vec_len l.index ≤ vec_len l.fn.index;
  room : vec_capacity l.fn.index ≤ vec_capacity l.index;
}
