use Rattle.std.proofs.Common.{◌≡◌, drop}
use Rattle.std.proofs.Common.{◌++◌}
use Rattle.plain_model.specs.Listed.{picked_row}
use Rattle.plain_model.specs.Messages.{generates}
use Rattle.plain_model.proofs.causality.add_generated.Given as goal

-- what is left of the list answers for the whole
abbrev pub invariant-loop-b : goal.invariant-loop-b
invariant-loop-b l = l.pairs.items ++ picked_row (generates l.h) l.a (drop l.b-index l.calls) ≡ l.fn.pairs.items ++ picked_row (generates l.h) l.a l.calls
