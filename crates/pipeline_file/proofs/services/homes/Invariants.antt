use Rattle.std.proofs.Common.{◌≡◌, ◌+◌, ◌++◌, drop}
use Rattle.pipeline_file.specs.Services.{homes_from}
use Rattle.pipeline_file.proofs.services.homes.Given as goal

-- the homes so far and those that are left are all
abbrev pub invariant-loop-index : goal.invariant-loop-index
invariant-loop-index l = l.list ++ homes_from (l.index + 1) (drop l.index l.shards) ≡ homes_from 1 l.shards
