use Rattle.std.proofs.Common.{◌≡◌, drop}
use Rattle.script_binding.specs.NameFaults.{first_service}
use Rattle.script_binding.specs.Naming.{naming}
use Rattle.script_binding.proofs.name_faults.first_service.Given as goal

-- the service of the first key of those that are left is that of all
abbrev pub invariant-loop-mention : goal.invariant-loop-mention
invariant-loop-mention l =
    first_service (naming l.names) l.mentions ≡ first_service (naming l.names) (drop l.mention-index l.mentions)
