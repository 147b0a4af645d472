use Rattle.std.proofs.Common.{◌≡◌, drop, length}
use Rattle.script_laws.specs.SameOps.{same_keys}
use Rattle.plain_walk.specs.Operations.{keys_of}
use Rattle.plain_walk.proofs.operations.are_keys.Given as goal

-- what is left of the list answers for the whole
abbrev pub invariant-loop-place : goal.invariant-loop-place
invariant-loop-place l = record {
  left : same_keys (keys_of (drop l.place l.pairs)) (drop l.place l.keys) ≡ same_keys (keys_of l.pairs) l.keys;
  long : length l.pairs ≡ length l.keys;
}
