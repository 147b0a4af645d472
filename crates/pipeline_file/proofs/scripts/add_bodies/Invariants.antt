use Rattle.std.proofs.Common.{◌≡◌, ◌+◌, [], length, drop}
use Rattle.pipeline_tables.specs.Lists.{onto}
use Rattle.pipeline_file.specs.Scripts.{bodies_from}
use Rattle.pipeline_file.proofs.scripts.add_bodies.Given as goal

-- the bodies so far are those before the rest
abbrev pub invariant-loop-index : goal.invariant-loop-index
invariant-loop-index l = (bodies_from l.declared l.resolved 1 [] l.stages ≡ onto l.bodies (bodies_from l.declared l.resolved (l.index + 1) l.spawned (drop l.index l.stages))) × (length l.bodies ≡ l.index)
