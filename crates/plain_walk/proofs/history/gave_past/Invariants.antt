use Rattle.std.proofs.Common.{◌≡◌, drop}
use Rattle.script_laws.specs.Steps.{gave_past}
use Rattle.plain_walk.proofs.history.gave_past.Given as goal

-- what is left of the list answers for the whole
abbrev pub invariant-loop-entry : goal.invariant-loop-entry
invariant-loop-entry l = gave_past l.giver l.pipe l.number (drop l.entry-index l.h) ≡ gave_past l.giver l.pipe l.number l.h
