use Rattle.std.proofs.Common.{◌≡◌, drop}
use Rattle.plain_model.specs.Orders.{ended_within}
use Rattle.rss_check.proofs.places.are_ended_within.Given as goal

-- what is left of the list answers for the whole
abbrev pub invariant-loop-entry : goal.invariant-loop-entry
invariant-loop-entry l = ended_within l.c (drop l.entry-index l.h) ≡ ended_within l.c l.h
