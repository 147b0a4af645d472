use Rattle.std.proofs.Common.{◌≡◌, ◌++◌, drop}
use Rattle.pipeline_file.specs.Services.{those_of}
use Rattle.pipeline_file.proofs.services.add_those.Given as goal

-- what was added and what is left to add are the whole
abbrev pub invariant-loop-service : goal.invariant-loop-service
invariant-loop-service l = l.list ++ those_of l.kind (drop l.service-index l.services) ≡ l.initial.list ++ those_of l.kind l.services
