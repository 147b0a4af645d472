use Rattle.std.proofs.Common.{◌≡◌, drop}
use Rattle.rss_model.specs.Stages.{stage_of}
use Rattle.plain_walk.proofs.history.stage_of.Given as goal

-- what is left of the list answers for the whole
abbrev pub invariant-loop-entry : goal.invariant-loop-entry
invariant-loop-entry l = stage_of (drop l.entry-index l.h) l.call ≡ stage_of l.h l.call
