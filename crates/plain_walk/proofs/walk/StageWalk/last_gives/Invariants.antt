use Rattle.std.proofs.Common.{◌≡◌, ◌++◌, ◌+◌, drop, map}
use Rattle.rss_model.specs.Walk.{end_marks}
use Rattle.plain_walk.specs.Walks.{token_of}
use Rattle.plain_walk.proofs.walk.StageWalk.last_gives.Given as goal

-- the marks of the pipes that were passed and those of the others are all
abbrev pub invariant-loop-place : goal.invariant-loop-place
invariant-loop-place l = map token_of l.owed.items ++ end_marks l.stage l.self.given l.self.closed (l.place + 1) (drop l.place l.config.pipe_ends) ≡ end_marks l.stage l.self.given l.self.closed 1 l.config.pipe_ends
