use Rattle.std.proofs.Common.{◌≡◌, ◌≤◌, drop}
use Rattle.script_binding.specs.Outcome.{outcome, outcome_in, behind}
use Rattle.script_binding.specs.Naming.{naming}
use Rattle.script_binding.proofs.binding.bind_all.Given as goal

-- what was bound and what comes of the statements that are left are the whole
abbrev pub invariant-loop-statement : goal.invariant-loop-statement
invariant-loop-statement l =
    (outcome (naming l.names) l.raw ≡ behind l.script (outcome_in (naming l.names) l.environment (drop l.statement-index l.raw)))
    × (l.environment.depth ≤ l.environment.statements)
    × (l.environment.statements ≤ 256)
