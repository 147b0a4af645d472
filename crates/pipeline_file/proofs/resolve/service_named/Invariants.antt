use Rattle.std.proofs.Common.{◌≡◌, drop}
use Rattle.pipeline_file.specs.Resolve.{service_named}
use Rattle.pipeline_file.proofs.resolve.service_named.Given as goal

-- the first of those that are left is the first of all
abbrev pub invariant-loop-service : goal.invariant-loop-service
invariant-loop-service l = service_named (drop l.service-index l.services) l.name ≡ service_named l.services l.name
