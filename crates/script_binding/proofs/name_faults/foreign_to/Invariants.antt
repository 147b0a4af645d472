use Rattle.std.proofs.Common.{◌≡◌, drop}
use Rattle.script_binding.specs.NameFaults.{foreign_to}
use Rattle.script_binding.specs.Naming.{naming}
use Rattle.script_binding.proofs.name_faults.foreign_to.Given as goal

-- the first foreign key of those that are left is that of all
abbrev pub invariant-loop-mention : goal.invariant-loop-mention
invariant-loop-mention l =
    foreign_to (naming l.names) l.service l.mentions ≡ foreign_to (naming l.names) l.service (drop l.mention-index l.mentions)
