use Rattle.std.proofs.Common.{◌≡◌, drop, take}
use Rattle.script_binding.specs.NameFaults.{first_repeat, repeat_behind}
use Rattle.script_binding.proofs.name_faults.first_repeat.Given as goal

-- the first repeat among those that are left, behind the others, is that of all
abbrev pub invariant-loop-index : goal.invariant-loop-index
invariant-loop-index l =
    first_repeat l.members ≡ repeat_behind (take l.index l.members) (drop l.index l.members)
