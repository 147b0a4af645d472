use Rattle.std.proofs.Common.{◌≡◌, ◌++◌, ◌+◌, ◌-◌, length}
use Rattle.world_stages.specs.Settled.{parents_from, parents_of}
use Rattle.world_stages.proofs.parents.Parents.new.Given as goal

-- the parents that were found and those that are left are all
abbrev pub invariant-loop-number : goal.invariant-loop-number
invariant-loop-number l = l.parents.items ++ parents_from l.config l.number (length l.config.bodies + 1 - l.number) ≡ parents_of l.config
