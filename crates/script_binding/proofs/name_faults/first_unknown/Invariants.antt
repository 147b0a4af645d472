use Rattle.std.proofs.Common.{◌≡◌, drop}
use Rattle.script_binding.specs.NameFaults.{first_unknown}
use Rattle.script_binding.specs.Naming.{naming}
use Rattle.script_binding.proofs.name_faults.first_unknown.Given as goal

-- the first unknown name of those that are left is that of all
abbrev pub invariant-loop-mention : goal.invariant-loop-mention
invariant-loop-mention l =
    first_unknown (naming l.names) l.mentions ≡ first_unknown (naming l.names) (drop l.mention-index l.mentions)
