use Rattle.std.proofs.Common.{◌≡◌, ◌+◌, ◌≤◌, drop}
use Rattle.rss_machine.specs.Marks.{count_holders as holders_of}
use Rattle.reg_world.proofs.majority.count_holders.Given as goal

-- what is counted and what is left to count are the whole
abbrev pub invariant-loop-replica : goal.invariant-loop-replica
invariant-loop-replica l = (l.count + holders_of l.key l.stamp (drop l.replica-index l.replicas) ≡ holders_of l.key l.stamp l.replicas) × (l.count ≤ l.replica-index)
