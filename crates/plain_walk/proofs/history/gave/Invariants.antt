use Rattle.std.proofs.Common.{◌≡◌, drop}
use Rattle.script_laws.specs.Entries.{gave}
use Rattle.plain_walk.proofs.history.gave.Given as goal

-- what is left of the list answers for the whole
abbrev pub invariant-loop-entry : goal.invariant-loop-entry
invariant-loop-entry l = gave l.token (drop l.entry-index l.entries) ≡ gave l.token l.entries
