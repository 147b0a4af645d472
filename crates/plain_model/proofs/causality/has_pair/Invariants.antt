use Rattle.std.proofs.Common.{◌≡◌, drop}
use Rattle.plain_model.specs.Listed.{has_pair}
use Rattle.plain_model.proofs.causality.has_pair.Given as goal

-- what is left of the list answers for the whole
abbrev pub invariant-loop-pair : goal.invariant-loop-pair
invariant-loop-pair l = has_pair (drop l.pair-index l.pairs) l.a l.b ≡ has_pair l.pairs l.a l.b
