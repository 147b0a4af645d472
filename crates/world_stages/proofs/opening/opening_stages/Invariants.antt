use Rattle.std.proofs.Common.{◌≡◌, ◌++◌, ◌+◌, ◌-◌, length}
use Rattle.rss_machine.specs.State.{stages_from}
use Rattle.world_stages.proofs.opening.opening_stages.Given as goal

-- the stages that were made and those that are left are all
abbrev pub invariant-loop-place : goal.invariant-loop-place
invariant-loop-place l = l.stages.items ++ stages_from l.config (l.place + 1) (length l.config.bodies - l.place) ≡ stages_from l.config 1 (length l.config.bodies)
