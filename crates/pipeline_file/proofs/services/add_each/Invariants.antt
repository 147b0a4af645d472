use Rattle.std.proofs.Common.{◌≡◌, ◌++◌, drop}
use Rattle.pipeline_file.specs.Services.{for_each}
use Rattle.pipeline_file.proofs.services.add_each.Given as goal

-- what was added and what is left to add are the whole
abbrev pub invariant-loop-name : goal.invariant-loop-name
invariant-loop-name g l = l.list ++ for_each l.owner (drop l._name-index l.names) ≡ l.initial.list ++ for_each l.owner l.names
