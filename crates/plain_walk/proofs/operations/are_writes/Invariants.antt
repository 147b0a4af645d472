use Rattle.std.proofs.Common.{◌≡◌, drop, length}
use Rattle.script_laws.specs.SameOps.{same_writes}
use Rattle.plain_walk.specs.Operations.{bound_writes}
use Rattle.plain_walk.proofs.operations.are_writes.Given as goal

-- what is left of the list answers for the whole
abbrev pub invariant-loop-place : goal.invariant-loop-place
invariant-loop-place l = record {
  left : same_writes (bound_writes l.pairs l.variables (drop l.place l.writes)) (drop l.place l.others) ≡ same_writes (bound_writes l.pairs l.variables l.writes) l.others;
  long : length l.writes ≡ length l.others;
}
