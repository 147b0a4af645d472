use Rattle.std.proofs.Common.{◌≡◌, drop}
use Rattle.rss_model.specs.Stages.{ending_of}
use Rattle.plain_walk.proofs.history.ending_of.Given as goal

-- what is left of the list answers for the whole
abbrev pub invariant-loop-entry : goal.invariant-loop-entry
invariant-loop-entry l = ending_of (drop l.entry-index l.h) l.stage ≡ ending_of l.h l.stage
