use Rattle.std.proofs.Common.{◌≡◌, drop}
use Rattle.script_laws.specs.Steps.{gave_exit}
use Rattle.plain_walk.proofs.history.gave_exit.Given as goal

-- what is left of the list answers for the whole
abbrev pub invariant-loop-entry : goal.invariant-loop-entry
invariant-loop-entry l = gave_exit l.stage (drop l.entry-index l.h) ≡ gave_exit l.stage l.h
