use Rattle.std.proofs.Common.{◌≡◌, drop}
use Rattle.std.proofs.Common.{◌++◌}
use Rattle.plain_model.specs.Listed.{picked}
use Rattle.plain_model.specs.Causes.{reaches}
use Rattle.plain_model.proofs.causality.pairs_over.Given as goal

-- what is left of the list answers for the whole
abbrev pub invariant-loop-a : goal.invariant-loop-a
invariant-loop-a l = l.pairs.items ++ picked (reaches l.known l.way) (drop l.a-index l.calls) l.calls ≡ picked (reaches l.known l.way) l.calls l.calls
