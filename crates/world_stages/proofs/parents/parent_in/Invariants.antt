use Rattle.std.proofs.Common.{◌≡◌, ◌+◌, drop}
use Rattle.rss_machine.specs.Standing.{parent_from}
use Rattle.world_stages.proofs.parents.parent_in.Given as goal

-- none of the bodies so far spawns it
abbrev pub invariant-loop-place : goal.invariant-loop-place
invariant-loop-place l = parent_from (l.place + 1) l.number (drop l.place l.bodies) ≡ parent_from 1 l.number l.bodies
