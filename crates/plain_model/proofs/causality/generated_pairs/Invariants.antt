use Rattle.std.proofs.Common.{◌≡◌, drop}
use Rattle.std.proofs.Common.{◌++◌}
use Rattle.plain_model.specs.Listed.{picked}
use Rattle.plain_model.specs.Messages.{generates}
use Rattle.plain_model.proofs.causality.generated_pairs.Given as goal

-- what is left of the list answers for the whole
abbrev pub invariant-loop-a : goal.invariant-loop-a
invariant-loop-a l = l.pairs.items ++ picked (generates l.h) (drop l.a-index l.calls) l.calls ≡ picked (generates l.h) l.calls l.calls
