use Rattle.std.proofs.Common.{◌≡◌, [], take, drop}
use Rattle.plain_model.specs.Listed.{is_distinct_after}
use Rattle.plain_model.proofs.candidacy.is_distinct.Given as goal

-- what is left of the list answers for the whole
abbrev pub invariant-loop-place : goal.invariant-loop-place
invariant-loop-place l = is_distinct_after (take l.place l.calls) (drop l.place l.calls) ≡ is_distinct_after [] l.calls
