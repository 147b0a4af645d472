use Rattle.std.proofs.Common.{◌≡◌, ◌++◌, drop}
use Rattle.rss_machine.specs.State.{replicas_of_services}
use Rattle.reg_world.proofs.world.opening_services.Given as goal

-- the services that are there, with those left, are the whole
abbrev pub invariant-loop-def : goal.invariant-loop-def
invariant-loop-def l = l.services.items ++ replicas_of_services l.registers (drop l.def-index l.defs) ≡ replicas_of_services l.registers l.defs
