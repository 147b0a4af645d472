use Rattle.std.proofs.Common.{◌≡◌, drop}
use Rattle.plain_model.specs.Orders.{none_precedes}
use Rattle.plain_model.proofs.regularity.none_precedes.Given as goal

-- what is left of the list answers for the whole
abbrev pub invariant-loop-a : goal.invariant-loop-a
invariant-loop-a l = none_precedes l.h l.causality l.b (drop l.a-index l.calls) ≡ none_precedes l.h l.causality l.b l.calls
