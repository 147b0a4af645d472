use Rattle.std.proofs.Common.{◌≡◌, ◌++◌, drop}
use Rattle.script_binding.specs.Environment.{spawned_in}
use Rattle.script_binding.proofs.spawned.add_spawned.Given as goal

-- what was appended and what is left to append are the whole
abbrev pub invariant-loop-statement : goal.invariant-loop-statement
invariant-loop-statement l =
    l.spawned ++ spawned_in (drop l.statement-index l.script) ≡ l.fn.spawned ++ spawned_in l.script
