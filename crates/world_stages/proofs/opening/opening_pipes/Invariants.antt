use Rattle.std.proofs.Common.{◌≡◌, replicate}
use Rattle.rss_tables.specs.Pipes.{opening_pipe}
use Rattle.world_stages.proofs.opening.opening_pipes.Given as goal

-- so many pipes are there
abbrev pub invariant-loop-pipe : goal.invariant-loop-pipe
invariant-loop-pipe l = l.pipes.items ≡ replicate l._pipe opening_pipe
