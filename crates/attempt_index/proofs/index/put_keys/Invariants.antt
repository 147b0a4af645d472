use Rattle.std.proofs.Common.{◌≡◌, ◌+◌, ◌≤◌, drop, true, vec_len, vec_capacity}
use Rattle.attempt_index.specs.Ascending.{ascends}
use Rattle.attempt_index.specs.KeyIndex.{key_attempt_lt, with_keys}
use Rattle.attempt_index.proofs.index.put_keys.Given as goal

-- the pairs so far, with those of the keys left, are the whole
abbrev pub invariant-loop-key : goal.invariant-loop-key
invariant-loop-key l = record {
  whole : with_keys l.index.items l.attempt (drop l.key-index l.keys) ≡ with_keys l.fn.index.items l.attempt l.keys;
  ascending : ascends key_attempt_lt l.index.items ≡ true;
  few : vec_len l.index ≤ vec_len l.fn.index + l.key-index;
  room : vec_capacity l.fn.index ≤ vec_capacity l.index;
}
