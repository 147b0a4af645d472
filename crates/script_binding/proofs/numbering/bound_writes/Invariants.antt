use Rattle.std.proofs.Common.{◌≡◌, ◌++◌, drop}
use Rattle.script_binding.specs.Naming.{naming}
use Rattle.script_binding.specs.Numbering.{bound_writes}
use Rattle.script_binding.proofs.numbering.bound_writes.Given as goal

-- what was bound and what is left to bind are the whole
abbrev pub invariant-loop-write : goal.invariant-loop-write
invariant-loop-write l =
    l.out ++ bound_writes (naming l.names) l.variables (drop l.write-index l.writes) ≡ bound_writes (naming l.names) l.variables l.writes
