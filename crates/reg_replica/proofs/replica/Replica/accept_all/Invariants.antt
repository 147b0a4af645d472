use Rattle.std.proofs.Common.{◌≡◌, drop}
use Rattle.rss_tables.specs.ReplicaRow.{accept_all}
use Rattle.reg_replica.proofs.replica.Replica.accept_all.Given as goal

-- what is left to accept leads from here to the same cells
abbrev pub invariant-loop-dep : goal.invariant-loop-dep
invariant-loop-dep l = accept_all l.fn.self l.deps ≡ accept_all l.self (drop l.dep-index l.deps)
