use Rattle.std.proofs.Common.{◌≡◌, drop}
use Rattle.std.proofs.Common.{◌+◌}
use Rattle.plain_model.specs.Listed.{calls_below}
use Rattle.plain_model.proofs.causality.place_of.Given as goal

-- what is left of the list answers for the whole
abbrev pub invariant-loop-place : goal.invariant-loop-place
invariant-loop-place l = calls_below l.calls l.call ≡ l.place + calls_below (drop l.place l.calls) l.call
