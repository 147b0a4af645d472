use Rattle.std.proofs.Common.{◌≡◌}
use Rattle.rss_machine.specs.State.{opening_replicas}
use Rattle.reg_world.proofs.service.opening.Given as goal

-- so many replicas are there
abbrev pub invariant-loop-replica : goal.invariant-loop-replica
invariant-loop-replica l = l.replicas.items ≡ opening_replicas l.registers l._replica
