use Rattle.std.proofs.Common.{◌≡◌, drop}
use Rattle.plain_model.specs.Listed.{has_call}
use Rattle.plain_model.proofs.candidacy.has_call.Given as goal

-- what is left of the list answers for the whole
abbrev pub invariant-loop-listed : goal.invariant-loop-listed
invariant-loop-listed l = has_call (drop l.listed-index l.calls) l.call ≡ has_call l.calls l.call
