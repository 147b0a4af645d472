use Rattle.std.proofs.Common.{◌≡◌, ◌≤◌, ◌+◌, ◌*◌, ◌^◌, drop}
use Rattle.pipeline_lang.specs.Counts.{executed, executed_from}
use Rattle.script_binding.specs.Counts.{called, called_from}
use Rattle.script_binding.proofs.tally.count.Given as goal

-- what was counted and what is left to count are the whole
abbrev pub invariant-loop-statement : goal.invariant-loop-statement
invariant-loop-statement l =
    (l.statements + executed_from l.turns l.outer.items (drop l.statement-index l.script) ≡ l.fn.statements + executed l.script)
    × (l.calls + called_from l.turns l.outer.items (drop l.statement-index l.script) ≡ l.fn.calls + called l.script)
    × (l.statements ≤ 200000)
    × (l.calls ≤ 20001 + l.statements)
    × (l.turns ≤ 200000 * 2 ^ 64)
