use Rattle.std.proofs.Common.{◌≡◌, drop}
use Rattle.plain_model.specs.Causes.{closed_over}
use Rattle.plain_model.proofs.causality.closed_over.Given as goal

-- what is left of the list answers for the whole
abbrev pub invariant-loop-way : goal.invariant-loop-way
invariant-loop-way l = closed_over l.calls l.known.items (drop l.way-index l.calls) ≡ closed_over l.calls l.fn.known.items l.calls
