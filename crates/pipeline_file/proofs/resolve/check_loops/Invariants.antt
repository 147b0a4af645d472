use Rattle.std.proofs.Common.{◌≡◌, ◌+◌, drop}
use Rattle.pipeline_file.specs.Resolve.{no_loops}
use Rattle.pipeline_file.proofs.resolve.check_loops.Given as goal

-- the first loop of those that are left is the first of all
abbrev pub invariant-loop-index : goal.invariant-loop-index
invariant-loop-index l = no_loops (l.index + 1) (drop l.index l.pipes) ≡ no_loops 1 l.pipes
