use Rattle.std.proofs.Common.{◌≡◌, drop}
use Rattle.script_binding.specs.Environment.{noted}
use Rattle.script_binding.specs.Limits.{over_variables}
use Rattle.script_binding.proofs.environment.Variables.note.Given as goal

-- the mentions that are left, behind those that were taken in, are the whole
abbrev pub invariant-loop-mention : goal.invariant-loop-mention
invariant-loop-mention l =
    (over_variables l.self (drop l.mention-index l.mentions) ≡ over_variables l.fn.self l.mentions)
    × (noted l.self (drop l.mention-index l.mentions) ≡ noted l.fn.self l.mentions)
