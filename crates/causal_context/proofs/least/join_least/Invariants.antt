use Rattle.std.proofs.Common.{◌≡◌, ◌+◌, drop, length}
use Rattle.causal_context.specs.LeastTimes.{least_joined, least_from}
use Rattle.causal_context.proofs.least.join_least.Given as goal

-- what was raised, and what is left to raise, are the whole
abbrev pub invariant-loop-place : goal.invariant-loop-place
invariant-loop-place l =
    (least_joined (least_from 1 l.times) (least_from (1 + l.place) (drop l.place l.others)) ≡ least_joined (least_from 1 l.fn.times) (least_from 1 l.others))
    × (length l.times ≡ 8)
